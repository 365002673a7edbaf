pub mod Blocks
pub mod Formats
