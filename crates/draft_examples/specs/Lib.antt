pub mod Drafted
pub mod Worked
