pub mod Moves
pub mod Order
pub mod Members
pub mod Sorted
pub mod Places
