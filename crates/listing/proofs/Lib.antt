pub mod Fits
pub mod Bridge
pub mod Causes
pub mod Steps
pub mod Codes
