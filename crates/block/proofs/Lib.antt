-- Laws of fields in place and of the check.
pub mod Laws
pub mod Lay
pub mod Sums
pub mod Parts
pub mod Within
pub mod Bytewise
