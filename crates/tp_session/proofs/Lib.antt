pub mod Accessed
pub mod Tables
pub mod Steps
