pub mod Chains
pub mod Words
pub mod laws
