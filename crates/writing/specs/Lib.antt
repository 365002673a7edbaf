pub mod WritingBack
