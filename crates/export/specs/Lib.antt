-- What a linked host is handed.
pub mod Numbers
