-- What is proved of lists of bytes.
pub mod Room
