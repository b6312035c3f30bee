-- What the contracts of the frames out cite.
pub mod Frames
