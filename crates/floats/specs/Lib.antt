pub mod Floats
pub mod Operations
pub mod Rounding
pub mod laws
