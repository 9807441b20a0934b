pub mod Border
