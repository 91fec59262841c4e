-- A script has one run, on a dump and on a saved session too.
pub mod SameReply
pub mod SameRun
pub mod SameDumpRun
pub mod SameOpening
pub mod SameSavedRun
