-- What answers print.
pub mod Fine
pub mod Listings
pub mod Printed
pub mod Screen
