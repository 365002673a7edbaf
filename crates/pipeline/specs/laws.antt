pub mod Reset
pub mod WritingBack
