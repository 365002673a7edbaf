pub mod Beforehand
pub mod ChainEnd
pub mod Heads
pub mod Stepping
