-- The worked example.
pub mod Worked
