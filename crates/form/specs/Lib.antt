-- What a refusal of the form reader answers.
pub mod Refused
