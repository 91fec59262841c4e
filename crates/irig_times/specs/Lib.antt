pub mod Follows
pub mod FrameLooks
pub mod Starts
pub mod Steps
pub mod TimedElements
pub mod Times
