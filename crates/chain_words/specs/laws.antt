pub mod Chains
pub mod Front
pub mod Keeping
pub mod Places
