-- Turns of changes: their room, and how often they look.
pub mod Turned
pub mod Rooms
pub mod Readiness
pub mod Windows
pub mod LooksOfSteps
