pub mod StoreLemmas
pub mod TakenLemmas
