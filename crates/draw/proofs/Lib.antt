-- The laws that the crates above cite, and those of the functions here. Assumes nothing.
pub mod RunLaws
pub mod IndexLaws
pub mod Unique
pub mod Figures
