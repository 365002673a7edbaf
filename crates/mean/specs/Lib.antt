pub mod Mean
pub mod Theorems
pub mod laws
