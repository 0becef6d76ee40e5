pub mod Places
pub mod Sheets
pub mod State
