-- What the contracts of the offers are said in.
pub mod Offers
