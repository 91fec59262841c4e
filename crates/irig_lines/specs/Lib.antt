-- The language of a script.
pub mod Numbers
pub mod Words
pub mod Findings
pub mod Addresses
pub mod Tables
pub mod Keywords
pub mod Arguments
pub mod Commands
pub mod Purposes
pub mod Grammar
pub mod Lines
pub mod OneCommand
