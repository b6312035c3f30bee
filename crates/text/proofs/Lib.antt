-- Laws of writing, of a text in pieces, and of the loops that write and look.
pub mod Splice
pub mod Pieces
pub mod Laws
pub mod Decimal
