pub mod Enough
pub mod Known
