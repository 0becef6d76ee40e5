pub mod Blank
pub mod Tables
pub mod Rows
pub mod LowStamps
pub mod Promising
pub mod Learning
pub mod Gathering
pub mod Proposing
pub mod Counting
pub mod Outcomes
pub mod Unheeded
pub mod Accepting
pub mod Voting
mod Answering
mod Recovering
