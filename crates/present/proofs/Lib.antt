-- Laws of a presented ticket.
pub mod Laws
