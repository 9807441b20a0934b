pub mod Spots
pub mod Asked
pub mod Moves
pub mod HeaderBytes
pub mod Release
pub mod Freed
pub mod Unchanged
pub mod Headers
