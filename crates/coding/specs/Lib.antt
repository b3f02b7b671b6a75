-- How a unit lies in the words that a host owns.
pub mod Coding
