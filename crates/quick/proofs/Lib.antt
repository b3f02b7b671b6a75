-- What the proofs of the usual access share.
pub mod Noted
pub mod Sounds
