pub mod TopCall
pub mod Words
