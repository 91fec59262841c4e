pub mod Ending
pub mod Given
pub mod Help
pub mod RunsBy
pub mod Statuses
pub mod Shortage
pub mod Windows
