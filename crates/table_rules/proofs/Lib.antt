-- Laws that join what the code computes to protocol's definitions.
pub mod Laws
