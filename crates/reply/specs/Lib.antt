-- The result that goes with an answer.
pub mod Told
