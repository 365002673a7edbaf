pub mod Bounds
pub mod Walking
