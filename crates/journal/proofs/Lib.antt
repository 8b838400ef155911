pub mod Says
pub mod RunLaws
pub mod Loops
