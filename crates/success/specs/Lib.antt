-- What the walk from grant to parent needs.
pub mod Walk
