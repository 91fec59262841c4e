-- What is printed, byte by byte.
pub mod Known
pub mod RowLemmas
pub mod Blocks
pub mod Numbered
