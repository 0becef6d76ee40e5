pub mod Accepting
pub mod Making
