pub mod Confirmation
pub mod Each
pub mod Risk
pub mod Details
pub mod Figures
pub mod Laws
pub mod Refusal
