pub mod OtherLemmas
pub mod RunsBy
pub mod Windows
