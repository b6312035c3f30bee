-- Laws of new tickets: their texts, and what was done when one was issued and told.
pub mod Laws
