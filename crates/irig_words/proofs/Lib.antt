pub mod EitherGiven
pub mod Refusals
pub mod Times
