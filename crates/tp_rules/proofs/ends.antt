-- Why every run of an accepted script ends.
pub mod DeliveriesLeft
pub mod HowMany
pub mod LaterKinds
pub mod LeftFalls
pub mod RunsEnd
pub mod SitesCounted
pub mod Unannounced
pub mod Undelivered
pub mod Unentered
pub mod Unexecuted
pub mod Unsubmitted
