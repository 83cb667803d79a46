pub mod CheckedLemmas
pub mod CompoundedLemmas
pub mod DisclosedLemmas
pub mod OtherTermsLemmas
pub mod RegularLemmas
pub mod RoundedLemmas
pub mod LawLemmas
pub mod StatedLemmas
