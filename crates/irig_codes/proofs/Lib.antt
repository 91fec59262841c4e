-- values of the standard, computed, and two definitions that agree
pub mod Presence
pub mod StandardFacts
pub mod StandardFrames
pub mod WidthLemmas
-- the table of rows and the slots of a frame, which say the same of every frame
pub mod RowSums
pub mod Rows
pub mod Shapes
pub mod SlotFrames
pub mod Slots
pub mod Tables
-- the elements that are One, as the bits of a number
pub mod Bits
pub mod DigitBounds
pub mod Masks
pub mod OnesLemmas
pub mod OnesSteps
pub mod Strays
-- fields, encoding, decoding, and the way there and back
pub mod EncodeSteps
pub mod FieldLemmas
pub mod NarrowFields
pub mod NoteLemmas
pub mod RoundTrip
pub mod SlotRoundTrip
