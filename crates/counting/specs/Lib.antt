pub mod Counting
pub mod laws
