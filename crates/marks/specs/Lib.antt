pub mod Marks
pub mod WithheldList
