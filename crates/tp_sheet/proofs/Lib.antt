pub mod Tables
pub mod Known
pub mod Learned
pub mod Listed
