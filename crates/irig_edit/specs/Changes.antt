-- What a change is, how it turns, and the room that it needs.
pub mod Single
pub mod Delta
pub mod Held
pub mod Looks
pub mod Room
pub mod Ample
pub mod Ready
pub mod Laws
