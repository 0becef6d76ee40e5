pub mod Journals
pub mod Kinds
pub mod Meaning
pub mod Print
