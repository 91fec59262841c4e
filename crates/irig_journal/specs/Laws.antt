-- Lemmas that the laws of a state rest on. What a contract means needs none of them.
pub mod Backs
pub mod Parts
pub mod Turns
