-- Laws that several proofs cite, and lines worked by the definition.
pub mod Letters
pub mod Numbers
pub mod Worked
