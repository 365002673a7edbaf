pub mod Playing
pub mod Steps
pub mod laws
