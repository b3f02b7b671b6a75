-- What the proofs of the cells share.
pub mod Laws
