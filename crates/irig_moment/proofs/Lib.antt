-- values of the calendar and of the standard, computed
pub mod StandardFacts
pub mod StandardFrames
-- days by their numbers, and the ranges of generated fields
pub mod Days
pub mod FieldRanges
-- written moments
pub mod Forms
