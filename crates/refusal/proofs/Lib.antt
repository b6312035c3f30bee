-- The list of refusals, a rung at a time.
pub mod Laws
