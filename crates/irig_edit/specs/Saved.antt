-- A session as a text.
pub mod Saved
pub mod SavedSession
pub mod SavedParts
pub mod Stages
