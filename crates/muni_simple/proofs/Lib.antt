pub mod AnswerLemmas
pub mod DiscountLemmas
pub mod GrowthLemmas
pub mod OneAnswer
pub mod PriceLemmas
pub mod ShownLemmas
