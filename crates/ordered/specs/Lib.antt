pub mod Inserting
pub mod Ascending
pub mod Members
