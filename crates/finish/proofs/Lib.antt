-- Laws of a waiting grant and of what is told of it.
pub mod Laws
