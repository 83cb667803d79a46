pub mod Ends
pub mod Fractions
pub mod Holding
pub mod Powers
pub mod Roots
pub mod Rounding
pub mod Widths
