pub mod Accessed
pub mod Announced
pub mod Answering
pub mod Least
pub mod Steps
