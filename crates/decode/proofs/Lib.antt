-- The laws of decoding, and the numbered examples that tell of it.
pub mod Laws
pub mod Examples
