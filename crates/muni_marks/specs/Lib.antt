pub mod Laws
pub mod Line
pub mod Marked
pub mod Marks
pub mod Portfolio
pub mod Rows
