-- What is proved of the coding: that it goes there and back, and what its functions' proofs share.
pub mod Elements
pub mod Cells
pub mod Passes
pub mod Laws
pub mod Stays
pub mod Room
