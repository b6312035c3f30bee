-- What the contracts of the searches are said in.
pub mod Searches
