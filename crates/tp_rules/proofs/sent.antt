-- What was sent, and by whom.
pub mod CarriedCommands
pub mod EachSent
pub mod Parcels
pub mod Provenance
pub mod SendsOfProcess
