pub mod Elapsed
pub mod MadeLemmas
pub mod Patches
pub mod Pieces
pub mod PlaceLemmas
pub mod Runs
pub mod Truth
pub mod SlotImages
