pub mod Options
pub mod Chosen
pub mod Settings
pub mod Help
pub mod Ending
pub mod Statuses
