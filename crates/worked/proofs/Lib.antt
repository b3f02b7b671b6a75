-- What is computed from the definitions: worked numbers, runs that meet or break the premises, and programs that are none of the rules.
pub mod Opened
pub mod Units
pub mod Starred
pub mod Dec52
pub mod WithTwentyFour
pub mod Worked
pub mod Premises
pub mod Versions
pub mod Refuted
