pub mod Laws
pub mod List
pub mod Rows
pub mod Words
pub mod Writer
