pub mod Cells
pub mod Posts
