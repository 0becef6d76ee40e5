pub mod Pendings
pub mod Stands
pub mod Turns
