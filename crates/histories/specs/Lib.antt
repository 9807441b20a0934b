pub mod History
pub mod Cards
