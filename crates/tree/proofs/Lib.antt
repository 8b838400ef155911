pub mod Climbs
pub mod Seats
pub mod Held
pub mod Sharing
pub mod Lower
