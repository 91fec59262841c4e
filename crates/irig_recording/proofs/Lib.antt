-- Lists; pulses and their edges.
pub mod Items
pub mod RecordingLemmas
pub mod PulseEdges
-- The text of a recording, and the lines of one pulse.
pub mod TextParts
pub mod TextLength
pub mod WrittenText
pub mod PulseText
pub mod CountedUp
