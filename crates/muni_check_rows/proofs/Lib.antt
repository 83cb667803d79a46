pub mod ColumnLemmas
pub mod LawLemmas
