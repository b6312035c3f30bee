-- The statement of demand 3.
pub mod History
pub mod Reading
pub mod Notebook
pub mod Truth
pub mod Account
