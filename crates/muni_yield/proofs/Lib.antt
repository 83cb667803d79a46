pub mod PlaceLemmas
pub mod KnownLemmas
pub mod BracketLemmas
pub mod OutcomeLemmas
pub mod FinalLemmas
