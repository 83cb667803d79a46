pub mod Catalog
pub mod Kinds
pub mod Open
pub mod Faults
pub mod Seal
pub mod SealText
