pub mod Netbook
pub mod Places
pub mod Outputs
pub mod Ledger
pub mod Inbox
