pub mod AskedLemmas
pub mod BlankLemmas
pub mod CallLemmas
pub mod KeyLemmas
pub mod LettersLemmas
pub mod MarkLemmas
