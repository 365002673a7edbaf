pub mod Clipping
pub mod Gain
pub mod Theorems
pub mod laws
