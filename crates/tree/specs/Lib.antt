pub mod Trees
pub mod Held
pub mod Refusals
