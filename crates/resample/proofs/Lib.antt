mod Blocks
mod Interpolating
mod Outputs
mod Place
mod Stage
mod Writing
pub mod laws
pub mod Theorems
