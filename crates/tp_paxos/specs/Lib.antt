pub mod View
pub mod Votes
