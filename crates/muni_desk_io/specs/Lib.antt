pub mod Fault
pub mod Input
pub mod Lent
pub mod Output
pub mod Reports
