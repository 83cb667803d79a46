pub mod BlockLemmas
pub mod ColumnLemmas
pub mod LawLemmas
pub mod MachineLemmas
pub mod RecordLemmas
pub mod RowLemmas
