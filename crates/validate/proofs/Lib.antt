-- Laws of the validators.
pub mod Laws
