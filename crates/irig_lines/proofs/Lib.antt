-- What a line is cut into, and that it asks for one command.
pub mod WordLemmas
pub mod Spacing
pub mod AddressCut
pub mod RangeCut
pub mod NumberLemmas
pub mod KnownWords
pub mod SameAddress
pub mod SameCommand
pub mod OrderParts
pub mod LineOrders
pub mod LineReading
