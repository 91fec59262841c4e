-- Rising lists of edges, as lists and as sets.
pub mod RisingLists
pub mod Below
pub mod Sets
-- Places of lists.
pub mod Items
-- Pulses and their edges.
pub mod Places
pub mod Searches
pub mod Recordings
pub mod Texts
-- When an edit may be made.
pub mod PulsesBetween
pub mod Allowed
-- What the edits do to pulses and edges, and where.
pub mod Carried
pub mod MovedPulses
pub mod Exchanges
pub mod Turns
pub mod Spans
pub mod ToggleSpans
-- Looks, and how many a search takes.
pub mod Looks
-- Laws of edits for the crates above.
pub mod Laws
pub mod Inverses
