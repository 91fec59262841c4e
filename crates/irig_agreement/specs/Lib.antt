pub mod Agreed
pub mod Agreement
pub mod Changes
pub mod Doubts
pub mod Recorded
