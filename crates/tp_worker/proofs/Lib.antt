pub mod Since
pub mod Steps
pub mod Holding
pub mod Goings
pub mod Ends
