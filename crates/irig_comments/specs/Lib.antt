pub mod Commented
pub mod Comments
pub mod Counts
pub mod Framed
pub mod Left
pub mod Parts
pub mod Same
pub mod Sides
