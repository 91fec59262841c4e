-- Lemmas that the laws of the stack rest on. What a contract means needs none of them.
pub mod Edits
pub mod Groups
pub mod Stack
