pub mod Errors
pub mod Options
pub mod Settings
