pub mod CivilLemmas
pub mod JiffLemmas
pub mod OrderLemmas
pub mod DayLemmas
pub mod FormLemmas
pub mod TextLemmas
pub mod ReadingLemmas
pub mod EarlyLemmas
