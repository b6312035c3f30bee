-- Laws of edits slot by slot, and of what is issued.
pub mod Slots
pub mod Issues
pub mod Formats
pub mod Leaving
