pub mod Parts
pub mod Store
pub mod Limits
