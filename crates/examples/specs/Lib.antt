pub mod Offers
pub mod Lists
pub mod Worked
