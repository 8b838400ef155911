pub mod Lines
pub mod Cutting
pub mod Stages
pub mod Refusals
