pub mod Clipping
pub mod Gain
