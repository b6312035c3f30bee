-- What the contracts of the edits are said in.
pub mod Edits
