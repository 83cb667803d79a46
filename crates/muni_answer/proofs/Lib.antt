pub mod ShownLemmas
pub mod CandidateLemmas
pub mod FoundLemmas
pub mod UniqueLemmas
pub mod RightLemmas
pub mod OneFigureLemmas
