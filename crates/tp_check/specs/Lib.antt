pub mod Causes
pub mod Verdicts
pub mod Steps
pub mod Print
