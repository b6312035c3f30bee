-- Laws of visits found and told, and of their texts.
pub mod Laws
pub mod Texts
