pub mod Claims
pub mod Steps
pub mod Gathered
pub mod Sures
