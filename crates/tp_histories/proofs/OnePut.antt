-- The run of one put in one partition of three replicas, with the plan: its entries, and what they come to.
mod Accepted
mod Illegal
pub mod Journal
mod Outcome
mod Run
