pub mod Accepted
pub mod Grammar
pub mod Kinds
pub mod Meaning
pub mod Print
