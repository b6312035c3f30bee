-- Laws of the texts of pages and addresses in parts, and the examples of document 01 that are about them.
pub mod Texts
pub mod Worked
