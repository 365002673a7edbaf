pub mod Layout
pub mod Storable
pub mod laws
