-- The laws that proofs of this crate and of crates above cite. Assumes nothing.
pub mod FormLaws
pub mod StepLaws
pub mod Arranged
