pub mod Commands
pub mod Outcomes
pub mod Recorded
pub mod Replies
pub mod Report
pub mod Results
pub mod Summary
