-- Lines, what is left of a script, and the runs of scripts.
pub mod Sights
pub mod Desks
pub mod Lines
pub mod Reading
pub mod Runs
pub mod LastLines
pub mod Reads
pub mod Quits
pub mod Steps
pub mod DumpRuns
