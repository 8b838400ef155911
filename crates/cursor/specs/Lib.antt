pub mod Faults
pub mod Parts
pub mod Readings
pub mod Cursors
pub mod Encodings
