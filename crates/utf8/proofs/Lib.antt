-- The laws of the judgement of names, for its own loops and those of callers, and the worked cases.
pub mod Laws
pub mod Join
pub mod Small
pub mod Worked
