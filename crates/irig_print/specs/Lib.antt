-- What is printed.
pub mod Row
pub mod FrameLine
pub mod PulseLine
pub mod Blocks
pub mod Numbered
pub mod Front
