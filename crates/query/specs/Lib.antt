-- What a reader's step answers, and what a walk notes of a name.
pub mod Piece
pub mod Place
