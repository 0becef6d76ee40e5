pub mod Wired
pub mod Worded
pub mod Evented
pub mod Grown
pub mod Found
pub mod TextAgain
pub mod JournalLaws
