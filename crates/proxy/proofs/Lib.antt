-- What proxy's functions give each other.
pub mod Laws
