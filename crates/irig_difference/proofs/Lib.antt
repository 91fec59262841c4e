pub mod FlipLists
pub mod FlipSets
pub mod Passed
pub mod Levels
pub mod Patches
pub mod PatchTexts
