-- The laws of this crate. Assumes nothing.
pub mod Unique
pub mod Decode
pub mod Outcomes
