pub mod Counting
pub mod Divisor
pub mod Rates
pub mod Search
