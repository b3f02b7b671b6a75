-- A reply of the library as one number.
pub mod Replies
