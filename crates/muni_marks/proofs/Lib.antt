pub mod BlockLemmas
pub mod PortfolioLemmas
pub mod UniqueLemmas
