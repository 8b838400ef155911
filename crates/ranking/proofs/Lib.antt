pub mod Orders
pub mod Counting
pub mod Rising
pub mod Lining
pub mod Gathers
pub mod Meets
pub mod Fixes
