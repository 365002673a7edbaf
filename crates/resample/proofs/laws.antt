pub mod Neighbours
pub mod Value
