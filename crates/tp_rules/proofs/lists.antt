-- Lists, numbers and counts.
pub mod Distinct
pub mod Selections
pub mod Tallies
pub mod UpTo
pub mod Weights
