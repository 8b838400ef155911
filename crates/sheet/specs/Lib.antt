pub mod Faults
pub mod Layout
pub mod Sheets
pub mod Readers
pub mod Records
