pub mod Says
pub mod Kept
pub mod Sum
pub mod Numbers
pub mod Bits
pub mod Runs
pub mod Parts
