-- What the contract of a check over a part of a block is said in.
pub mod Checks
