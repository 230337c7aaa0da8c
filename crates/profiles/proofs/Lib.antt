-- The laws that the crates above cite. Assumes nothing.
pub mod ProfileLaws
pub mod Unique
