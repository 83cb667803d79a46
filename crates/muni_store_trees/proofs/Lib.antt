mod AddLemmas
mod CallLemmas
mod LookLemmas
mod PageLemmas
mod ScanLemmas
