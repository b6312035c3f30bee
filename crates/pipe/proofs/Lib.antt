-- What is put into a frame.
pub mod Laws
