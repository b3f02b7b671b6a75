-- What the library's calls do, over the words that a host owns.
pub mod Doors
