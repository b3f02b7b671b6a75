-- Demand 3 proved: its first part, the words of its premises, and on them the cells and the equality with the unit that has none.
pub mod Always
pub mod Endings
pub mod Ranges
pub mod Wellformed
pub mod Goes
pub mod Reaches
pub mod Histories
pub mod Uses
pub mod Visits
pub mod Sound
pub mod SameRun
