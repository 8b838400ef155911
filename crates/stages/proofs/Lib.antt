pub mod Groups
pub mod Falling
