pub mod SightCode
pub mod Known
pub mod Watched
