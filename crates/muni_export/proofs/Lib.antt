pub mod IssueLemmas
pub mod RowLemmas
pub mod VersionLemmas
pub mod WriterLemmas
