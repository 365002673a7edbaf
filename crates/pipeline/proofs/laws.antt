pub mod Opening
pub mod RoundTrip
