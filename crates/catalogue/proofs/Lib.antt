pub mod Places
pub mod Searching
pub mod Judging
pub mod BookLaws
pub mod Holding
pub mod Doing
pub mod OneAnswer
