-- The codes of the code, the parts of a response, and those of a success.
pub mod Codes
pub mod Response
pub mod Success
