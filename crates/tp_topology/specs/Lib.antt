pub mod Counting
pub mod Shape
pub mod Ballots
pub mod Stability
