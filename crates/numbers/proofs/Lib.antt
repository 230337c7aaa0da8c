-- The laws of the functions of `src/`. Assumes nothing.
pub mod Unique
