pub mod Fault
pub mod Check
pub mod Flows
pub mod Issue
pub mod LastMonth
pub mod Row
