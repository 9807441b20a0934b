pub mod Tests
pub mod Frames
pub mod Sums
pub mod NumberLaws
pub mod BitLaws
pub mod RunLaws
pub mod PartLaws
pub mod ByteLaws
