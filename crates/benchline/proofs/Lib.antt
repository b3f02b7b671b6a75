-- Laws that the proof of a line cites.
pub mod Calls
