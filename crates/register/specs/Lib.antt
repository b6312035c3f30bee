-- What the code computes of a register.
pub mod Blockwise
