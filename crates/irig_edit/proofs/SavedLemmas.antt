-- The text that a session is saved as.
pub mod Numbers
pub mod Rests
pub mod SavedSections
