pub mod Answers
pub mod FinishAnswers
