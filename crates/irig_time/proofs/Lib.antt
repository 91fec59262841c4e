pub mod Limits
pub mod Headed
