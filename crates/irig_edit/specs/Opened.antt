-- A session that is opened from a dump with its journal.
pub mod Opened
pub mod Openings
pub mod Parts
pub mod Stops
pub mod Taken
pub mod Walk
pub mod GoingOn
