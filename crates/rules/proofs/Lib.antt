-- What is proved of the rules. Promises.antt states demands 1 and 3 and the making of a unit, and Proved.antt gathers their proofs; the rooms hold the rest.
pub mod Promises
pub mod Proved
pub mod Statements
pub mod Laws
pub mod Sizes
pub mod Demand1
pub mod Demand3
