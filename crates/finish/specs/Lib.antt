pub mod FinishCall
pub mod Theorems
pub mod Told
pub mod Turns
pub mod laws
