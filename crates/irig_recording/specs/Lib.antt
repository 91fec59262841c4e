pub mod Pulses
pub mod Recording
pub mod FileText
pub mod Comments
-- What the parts of the code show of the definitions.
pub mod Edges
pub mod KeptPulse
