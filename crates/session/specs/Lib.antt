-- Words for the contracts of accepted credentials.
pub mod Signing
