pub mod Pattern
pub mod Three
