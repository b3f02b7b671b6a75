-- Laws that several proofs cite, and those that docs/DESIGN-PASS.md names.
pub mod Scan
pub mod Digits
pub mod Chain
pub mod Places
