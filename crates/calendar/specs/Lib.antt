-- Words for the contracts of this crate's own functions.
pub mod Years
