-- What is proved of the panel: that a place stands for the part of memory that the rules name.
pub mod Pages
