pub mod Arguments
pub mod Lines
pub mod Page
pub mod Theorems
pub mod laws
