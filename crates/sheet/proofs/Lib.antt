pub mod Ranges
pub mod Entered
pub mod Chained
pub mod Recorded
pub mod OneToOne
