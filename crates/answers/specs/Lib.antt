-- The numbers that contracts name. Assumes nothing.
pub mod Answers
pub mod Refusals
