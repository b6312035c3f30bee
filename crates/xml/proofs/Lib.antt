-- Laws of the texts of XML in parts.
pub mod Texts
