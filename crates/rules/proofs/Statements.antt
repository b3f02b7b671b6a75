-- What is stated beyond the promises, and where a reader comes in next: every way to end, the premises in 01's words, the host's numbers and addresses,
-- the boundary of the simple pages, one outcome.
pub mod Ways
pub mod PremiseWords
pub mod HostView
pub mod Boundary
pub mod OneOutcome
