-- Messages in the ranges of the wire format, to actors of the script: each that a run sends is such a one.
pub mod Choices
pub mod Executors
pub mod InRange
pub mod Messages
pub mod Processes
pub mod Promises
pub mod Rules
pub mod Sends
pub mod Sessions
pub mod Stamps
