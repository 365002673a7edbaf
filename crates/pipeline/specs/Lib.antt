pub mod Opening
pub mod Reset
pub mod RoundTrip
pub mod WritingBack
pub mod laws
