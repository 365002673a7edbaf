pub mod Answers
pub mod Counting
pub mod Divisor
pub mod Rates
pub mod Theorems
pub mod laws
