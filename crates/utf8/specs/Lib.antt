-- The states of the judgement of a name, which the contracts cite.
pub mod Machine
