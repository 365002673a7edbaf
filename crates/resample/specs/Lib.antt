pub mod Blocks
pub mod Neighbours
pub mod Place
pub mod Resample
pub mod Stage
pub mod Value
pub mod laws
