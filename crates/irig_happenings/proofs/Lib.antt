pub mod Recorded
pub mod Named
pub mod Walks
pub mod Steps
pub mod Listed
