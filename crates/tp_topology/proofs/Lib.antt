pub mod Passing
pub mod Meetings
pub mod Sizes
pub mod UpTo
