-- The laws of the register: read block by block, and what that means.
pub mod Laws
pub mod Meaning
pub mod Making
