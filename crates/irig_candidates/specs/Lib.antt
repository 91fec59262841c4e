pub mod Bases
pub mod Bits
pub mod Far
pub mod Found
pub mod Rows
pub mod Sets
pub mod Times
