pub mod Channels
pub mod Theorems
pub mod laws
