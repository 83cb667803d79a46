mod ConfirmLemmas
mod CountLemmas
mod DeskLemmas
mod IssueLemmas
mod LooksLemmas
mod NamedLemmas
mod PageLemmas
mod PartLemmas
pub mod RowLemmas
pub mod TermsLemmas
mod TextLemmas
mod ToldLemmas
mod VersionLemmas
mod WalkLemmas
mod ExportLemmas
mod AgainIssueLemmas
mod MapLemmas
mod AgainPartLemmas
mod PartTextLemmas
mod RunLemmas
mod StepLemmas
mod TableLemmas
mod AgainTextLemmas
mod TradeLemmas
mod AgainVersionLemmas
mod WantedLemmas
