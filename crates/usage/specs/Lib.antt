pub mod UsesLists
pub mod Drawing
pub mod Laws
pub mod Orders
pub mod Groups
pub mod Held
pub mod Refusals
