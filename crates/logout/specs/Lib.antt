-- Words for the contracts of logout.
pub mod Leaving
