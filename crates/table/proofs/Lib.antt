-- Laws of the table's leaves.
pub mod Laws
pub mod Free
