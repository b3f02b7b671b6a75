-- The rules of document 01 as definitions, a file for each subject; a file stands on those above it. docs/RULES.md leads to them in 01's order.
pub mod Types
pub mod Choice
pub mod Memory
pub mod Unit
pub mod Status
pub mod Registers
pub mod Maps
pub mod Fetched
pub mod Steps
pub mod Sequences
pub mod Program
pub mod Order
pub mod Calls
pub mod Answers
pub mod Tools
pub mod Runs
