-- What `src/lib.rt` promises. Assumes nothing.
pub mod Hex
