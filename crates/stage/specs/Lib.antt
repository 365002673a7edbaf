pub mod Places
pub mod Rooms
pub mod Stages
pub mod Theorems
pub mod laws
