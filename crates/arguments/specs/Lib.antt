-- The definitions that the contracts cite.
pub mod Text
pub mod Asked
pub mod Told
