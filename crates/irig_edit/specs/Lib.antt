pub mod State
pub mod Changes
pub mod Edits
pub mod Session
pub mod Saved
pub mod Opened
