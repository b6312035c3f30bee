-- What the calls promise.
pub mod Promise
