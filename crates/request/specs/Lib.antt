-- What a judged name answers, what the answer for each path spells, and where its values stand.
pub mod Value
pub mod Spelled
pub mod Standing
