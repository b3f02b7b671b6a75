-- What some arguments ask for.
pub mod Worked
