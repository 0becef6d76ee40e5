pub mod Flaws
pub mod Replays
pub mod Decided
pub mod Complete
pub mod Printed
