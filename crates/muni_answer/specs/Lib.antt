pub mod Trade
pub mod Answers
pub mod AnswerLaws
pub mod GivenFor
pub mod FilledFor
pub mod RightFigures
