pub mod Routes
pub mod Fates
pub mod Deliveries
