pub mod CarriedOutLemmas
mod FoundLemmas
pub mod OutcomeLemmas
pub mod PlanLemmas
pub mod ReadyLemmas
