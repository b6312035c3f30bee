-- What the judge computes.
pub mod Tests
