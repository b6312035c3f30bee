-- Laws of searching and counting, and of what is found.
pub mod Laws
