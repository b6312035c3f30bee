-- Words for the contracts of a presented ticket.
pub mod Presented
