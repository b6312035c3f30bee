-- The parts of pages and addresses.
pub mod Parts
