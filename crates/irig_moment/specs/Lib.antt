pub mod Calendar
pub mod Generated
pub mod Moment
pub mod Written
