pub mod ExactSums
pub mod TotalLemmas
pub mod HornerTurns
pub mod BoundLemmas
pub mod PriceLemmas
pub mod DoublingTurns
pub mod AnnuityLemmas
