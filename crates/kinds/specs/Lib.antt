pub mod Meanings
pub mod Nothing
pub mod Laws
