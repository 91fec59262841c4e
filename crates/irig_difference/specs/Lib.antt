pub mod Flips
pub mod Stretches
pub mod PatchText
pub mod EdgesLeft
