-- known values, computed
pub mod StandardFacts
-- frames that are read, and records in order
pub mod SoundFrames
pub mod Records
-- times
pub mod SameTimes
pub mod Calendar
-- looks
pub mod FrameLookLemmas
pub mod PulseLooks
