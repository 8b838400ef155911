pub mod Floors
pub mod Steps
pub mod Fairness
pub mod UsesLaws
pub mod GroupLaws
pub mod Arrays
