-- The laws that the crates above cite. Assumes nothing.
pub mod Geometry
pub mod Unique
