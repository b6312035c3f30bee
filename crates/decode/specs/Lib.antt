-- What the contracts of decoding cite.
pub mod Judging
pub mod Units
