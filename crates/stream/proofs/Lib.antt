pub mod laws
pub mod Theorems
pub mod Examples
