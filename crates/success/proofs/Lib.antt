-- Laws of the walk from grant to parent, and of where a record's links lead.
pub mod Laws
pub mod Links
