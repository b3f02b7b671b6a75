-- The definitions that the contracts cite.
pub mod Digits
pub mod Row
