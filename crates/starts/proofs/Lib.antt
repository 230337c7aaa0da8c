-- The laws of this crate. Assumes nothing.
pub mod Exits
pub mod Unique
