-- Lemmas that the laws of changes rest on. What a contract means needs none of them.
pub mod Delta
pub mod Edges
pub mod Groups
pub mod Looks
pub mod Marks
pub mod Parts
pub mod Room
pub mod SetMarks
pub mod Single
pub mod State
