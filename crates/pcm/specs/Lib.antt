pub mod Formats
pub mod Frames
pub mod Integers
pub mod Refusals
pub mod Samples
pub mod laws
