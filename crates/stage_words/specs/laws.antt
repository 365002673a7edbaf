pub mod HeldParts
pub mod ReadBack
pub mod Reading
pub mod Small
pub mod Storable
