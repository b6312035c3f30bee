-- What the contracts of the table's leaves are said in.
pub mod Parts
