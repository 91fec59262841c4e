-- A session that is opened from a dump with its journal.
pub mod Walks
pub mod TakenSteps
pub mod TakenGroups
pub mod Heads
pub mod Parts
pub mod GoingOn
