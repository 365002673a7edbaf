mod Heads
mod Telling
pub mod laws
pub mod Theorems
