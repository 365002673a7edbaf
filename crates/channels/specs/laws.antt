pub mod Channels
pub mod Clipping
