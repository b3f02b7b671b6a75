-- Laws of the definitions, each file of one subject: what the proofs of the promises and those of the code cite.
pub mod Choices
pub mod Lists
pub mod MemoryLaws
pub mod StatusLaws
pub mod SearchLaws
pub mod PlaceLaws
pub mod KindLaws
pub mod RunLaws
pub mod Walks
pub mod Pages
pub mod CellsLaws
pub mod Counter
pub mod CoreLaws
