-- What `src/lib.rt` promises. Assumes nothing.
pub mod Geometry
pub mod Selection
