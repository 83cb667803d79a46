pub mod ConfirmLemmas
pub mod FaultLemmas
pub mod ImportLemmas
mod LoadLemmas
pub mod RunLemmas
mod LineLemmas
