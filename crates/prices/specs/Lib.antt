pub mod OverSeats
pub mod Amounts
pub mod Tables
pub mod Blocks
pub mod Laws
