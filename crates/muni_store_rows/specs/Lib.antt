pub mod Codes
pub mod Calls
pub mod Issue
pub mod Version
pub mod Laws
