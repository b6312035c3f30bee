-- Where a service stands in a register.
pub mod Standing
