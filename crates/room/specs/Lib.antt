pub mod Asked
pub mod Beforehand
pub mod Room
pub mod laws
