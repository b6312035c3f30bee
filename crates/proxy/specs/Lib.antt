-- Words for the contracts of proxy.
pub mod Asking
