pub mod Places
pub mod Bracket
pub mod BracketView
pub mod Outcome
pub mod Settled
pub mod Known
