pub mod BlockCall
pub mod Bounds
pub mod Chain
pub mod Theorems
pub mod Told
pub mod Turns
pub mod laws
