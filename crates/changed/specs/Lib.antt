-- What a change of a table is, and how it is told.
pub mod Changes
