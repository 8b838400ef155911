pub mod Shows
pub mod Publishes
