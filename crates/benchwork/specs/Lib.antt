-- The definitions that the contracts cite.
pub mod Whole
pub mod Bytes
