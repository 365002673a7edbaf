pub mod Kept
pub mod Layout
pub mod Storable
pub mod Theorems
pub mod laws
