pub mod Members
pub mod Calls
pub mod Stated
pub mod Body
pub mod Faults
pub mod LeftOut
pub mod OtherMembers
