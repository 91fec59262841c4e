pub mod Cuts
pub mod Digits
pub mod MovedPoints
pub mod Late
pub mod Words
pub mod TrueWords
pub mod StampedLines
pub mod Tallied
pub mod Moments
pub mod Endings
pub mod DateSteps
pub mod TakenBytes
pub mod Added
pub mod Places
pub mod HeaderReads
pub mod RunSteps
-- rows of a table
pub mod TableRows
-- digits of times
pub mod DigitParts
pub mod PrintedDigits
pub mod Units
pub mod HoleLaws
pub mod HoleMoments
pub mod HoleSteps
