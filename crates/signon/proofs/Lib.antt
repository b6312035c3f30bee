-- The calls' laws, and that their promises determine what comes out.
pub mod Laws
pub mod Determined
