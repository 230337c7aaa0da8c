-- The laws that proofs of this crate and of crates above cite. Assumes nothing.
pub mod LineLaws
pub mod Arranged
pub mod Fits
