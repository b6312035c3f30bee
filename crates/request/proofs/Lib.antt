-- The laws of judged names, and of what the answers spell.
pub mod Laws
