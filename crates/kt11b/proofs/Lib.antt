-- What the proofs of the calls share.
pub mod Calls
pub mod Absent
