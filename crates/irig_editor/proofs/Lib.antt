pub mod RunsBy
pub mod Windows
