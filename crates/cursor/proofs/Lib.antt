pub mod BigEndian
pub mod Printed
pub mod Repeats
pub mod Whenever
pub mod Written
