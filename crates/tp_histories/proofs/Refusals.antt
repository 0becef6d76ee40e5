-- What the rules refuse, one condition that fails at a time.
mod OfExecutor
mod OfProcess
mod OfSession
pub mod SameSheet
