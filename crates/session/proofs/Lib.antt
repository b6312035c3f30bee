-- Laws of accepted credentials: room for two.
pub mod Rooms
