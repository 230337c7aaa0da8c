-- The laws that the crates above cite, and those that the proofs here rest on. Assumes nothing.
pub mod PackedLaws
pub mod StartLaws
pub mod LayoutLaws
pub mod Unique
