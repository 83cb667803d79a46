pub mod IssueLemmas
pub mod LastMonthLemmas
pub mod BesideLemmas
pub mod RowLemmas
pub mod CallLemmas
pub mod HalfYearLemmas
