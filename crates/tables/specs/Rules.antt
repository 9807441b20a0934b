-- The nine book rules, each in its own file.
pub mod R1
pub mod R2
pub mod R3
pub mod R4
pub mod R5
pub mod R6
pub mod R7
pub mod R8
pub mod R9
