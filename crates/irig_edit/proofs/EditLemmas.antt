-- What each edit does to pulses and marks, and that generated frames are read back.
pub mod Insertions
pub mod Deletions
pub mod ChangedPulses
pub mod Replacements
pub mod Shifts
pub mod ShiftedStates
pub mod Toggles
pub mod Markers
pub mod GeneratedPulses
pub mod GenerationTests
pub mod Regenerations
pub mod GeneratedFields
pub mod GeneratedFrames
pub mod FramesAmongPulses
pub mod FramesReadBack
pub mod RegenerationReadBack
pub mod Holds
