-- Words of a text, a byte at a time, and those that are read in one step.
pub mod Runs
pub mod Joins
pub mod DigitRuns
pub mod Doubling
pub mod LaneCounts
pub mod LaneDigits
pub mod CodeRuns
pub mod ApartWords
pub mod DarkLanes
pub mod PartWords
pub mod MovedWords
-- Numbers of digits, and times in two parts.
pub mod Digits
pub mod DecimalLemmas
pub mod Clocks
pub mod TimeLemmas
-- The declarations, a section at a time.
pub mod Cuts
pub mod Steps
pub mod MoreWords
-- The changes, a word at a time, and the edges of their level.
pub mod Scans
pub mod WordSteps
pub mod Sound
pub mod EarlyEdges
pub mod ScanSteps
pub mod JournalPlaces
pub mod Levels
pub mod PulseSteps
pub mod Followed
pub mod Lawful
pub mod LevelLaw
pub mod Windows
mod WindowLaws
mod LongRecordings
-- The whole of a dump.
pub mod WholeDump
pub mod Gathered
pub mod PartSteps
-- The text of a recording, its words and its changes: what is written is read back.
pub mod WrittenWords
pub mod WrittenEdges
pub mod WrittenChanges
pub mod ReadBack
pub mod WrittenJournal
-- Known values.
pub mod StandardFacts
