-- Laws that several proofs cite, and those that docs/DESIGN-PASS.md names.
pub mod Figures
pub mod Decimals
pub mod Worked
pub mod Back
