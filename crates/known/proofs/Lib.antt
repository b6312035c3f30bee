-- The proofs of services that are known. Laws has what callers use: a service found is the one that was given, unless it is unknown.
pub mod Laws
