-- Pulses, times and marks.
pub mod Reversed
pub mod PulsesAtTimes
pub mod TouchedStretches
pub mod Risings
pub mod Distances
pub mod MovedMarks
