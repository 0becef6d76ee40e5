pub mod Cells
pub mod Going
pub mod Joining
pub mod Resting
