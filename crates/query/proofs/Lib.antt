-- The laws of the pieces, and of the names noted in a walk over them.
pub mod Pieces
pub mod Laws
