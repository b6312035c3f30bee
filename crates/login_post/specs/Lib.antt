-- What the contracts of login, POST, are said in.
pub mod Given
