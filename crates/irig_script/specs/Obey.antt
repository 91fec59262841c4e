-- What is done for the lines of a script.
pub mod Machine
pub mod PulseNumbers
pub mod Replies
pub mod Asked
pub mod Obeying
pub mod Answer
pub mod Seen
pub mod Desk
pub mod Run
pub mod Reading
pub mod OneRun
pub mod Ending
pub mod Progress
pub mod Reads
pub mod DumpRun
pub mod OneDumpRun
pub mod SavedRun
