pub mod Blocks
pub mod Cut
pub mod Delivered
