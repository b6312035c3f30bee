-- What is told of a change is enough, how two blocks are compared, and how changes are written.
pub mod Compare
pub mod Laws
pub mod Writing
