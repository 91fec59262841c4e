-- What is printed, byte by byte.
pub mod Pieces
pub mod MarkLines
pub mod FrameLines
pub mod Fines
