pub mod Patched
pub mod Scripts
pub mod Joined
pub mod Commented
