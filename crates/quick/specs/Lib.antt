-- The usual access, and what an attempt at it owes.
pub mod Usual
