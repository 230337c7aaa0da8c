-- The laws that proofs of this crate and of crates above cite. Assumes nothing.
pub mod GatherLaws
pub mod PrintLaws
pub mod CutLaws
