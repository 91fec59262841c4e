pub mod LeastWays
pub mod Growing
pub mod Reading
pub mod Both
pub mod Others
