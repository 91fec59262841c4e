mod Above
pub mod AnyFrom
mod ChainLists
mod Denied
mod Doubted
pub mod Each
mod EndsSaid
mod Holes
mod Hops
pub mod Joined
mod LastNamed
mod Lists
mod Meeting
mod Printed
pub mod SaidPoints
mod SeenAtEnds
mod SeenLists
mod SentNames
mod StandardFacts
mod Stretched
mod ToldPulses
mod TrueTimes
mod Walked
