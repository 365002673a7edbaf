pub mod Kinds
pub mod Notes
pub mod Records
pub mod RoundTrip
pub mod Theorems
pub mod laws
