pub mod Offers
pub mod Totals
pub mod Queues
pub mod Costing
pub mod Cheapest
pub mod Steps
pub mod Theorems
