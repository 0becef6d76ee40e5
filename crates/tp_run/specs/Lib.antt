pub mod Both
pub mod Calls
pub mod Status
pub mod Texts
pub mod TopCall
pub mod Traces
