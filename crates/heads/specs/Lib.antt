pub mod Kinds
pub mod Codes
pub mod Texts
pub mod Rules
pub mod Names
pub mod Heads
