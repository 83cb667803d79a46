mod EitherLemmas
pub mod EntriesLemmas
mod HistoryLemmas
mod KeeperLemmas
pub mod LastLemmas
mod MapLemmas
mod PageLemmas
mod PastLemmas
