pub mod Heads
pub mod Words
