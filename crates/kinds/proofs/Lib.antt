pub mod Noughts
