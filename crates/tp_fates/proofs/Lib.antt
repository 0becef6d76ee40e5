pub mod SameRoutes
pub mod FateTables
pub mod RouteCounts
pub mod NextFates
