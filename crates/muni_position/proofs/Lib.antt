pub mod BoundLemmas
pub mod ChangeLemmas
pub mod HoldingLemmas
pub mod KeptLemmas
pub mod LineLemmas
pub mod NextLemmas
pub mod PageLemmas
pub mod PutLemmas
pub mod SumLemmas
mod FewLemmas
mod ImportingLemmas
