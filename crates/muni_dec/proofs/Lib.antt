pub mod DigitsLemmas
pub mod GrammarLemmas
pub mod NumberLemmas
pub mod FaultLemmas
pub mod SignedFaultLemmas
pub mod RoundTripLemmas
