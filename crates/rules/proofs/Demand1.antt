-- Demand 1 proved, from the ways in which a call ends: which answer it has, and what a refusal leaves alone.
pub mod Why
pub mod Determined
pub mod InOrder
pub mod Kept
pub mod Ended
pub mod Reasons
pub mod Effects
pub mod Bits
pub mod Interrupts
pub mod CellStores
