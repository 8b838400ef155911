pub mod Refusals
pub mod Calls
pub mod Runs
pub mod Stores
pub mod Replays
pub mod Laws
