pub mod Fields
pub mod Lists
pub mod Names
pub mod Partition
pub mod Promises
pub mod Limits
pub mod Tables
