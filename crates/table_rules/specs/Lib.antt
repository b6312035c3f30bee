-- What the code computes of a block.
pub mod Tests
