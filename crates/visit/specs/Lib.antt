-- The slots of visits, and what the call tells.
pub mod Telling
