pub mod Numbers
pub mod Tellings
pub mod Ranks
pub mod Orders
