pub mod Words
pub mod Fields
pub mod IssueBody
pub mod VersionBody
pub mod Body
pub mod Laws
