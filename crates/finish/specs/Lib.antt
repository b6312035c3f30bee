-- What a waiting grant stands on.
pub mod Waits
