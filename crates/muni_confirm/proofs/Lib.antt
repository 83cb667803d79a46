pub mod LengthLemmas
pub mod EachLemmas
