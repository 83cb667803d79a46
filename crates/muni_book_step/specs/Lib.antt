pub mod Accepted
pub mod CarriedOut
pub mod Finds
pub mod Plan
pub mod Reasons
pub mod Runs
pub mod Sound
pub mod Step
