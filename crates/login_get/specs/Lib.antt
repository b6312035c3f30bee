-- What the contracts of login, GET, are said in.
pub mod Going
