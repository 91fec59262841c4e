-- lists
mod Lists
mod HeldLists
mod Doubts
-- runs, frames around a pulse, and pulses around a moment
mod RunPlaces
mod RunLists
mod RunPoints
mod StretchPairs
mod Surround
mod AroundRuns
mod MomentFacts
mod Widest
-- times that are true
mod NearLines
mod StrayLines
mod TrueMoments
mod NearMoments
-- times of the calendar, and reasons
pub mod TimedCalendar
pub mod Kept
pub mod OneReason
mod SomeReason
