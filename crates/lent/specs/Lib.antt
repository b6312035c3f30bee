-- What the contracts of lent buffers and of frames cite.
pub mod Counts
pub mod Frames
pub mod Reasons
pub mod Said
