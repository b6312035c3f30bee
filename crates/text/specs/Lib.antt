-- Where a byte first stands in a text, and what a name held by value says.
pub mod First
pub mod Named
