mod Cases
mod Forged
pub mod LawTests
mod OnePut
pub mod Planned
pub mod Played
mod Refusals
mod Runs
pub mod Scheduled
pub mod Words
