-- Laws of the judge, and what a lawful table is worth to callers.
pub mod Tail
pub mod Slots
pub mod Blocks
pub mod Worth
pub mod Whole
