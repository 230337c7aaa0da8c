-- The laws that proofs of this crate and of crates above cite. Assumes nothing.
pub mod BlockLaws
pub mod CallLaws
pub mod SheetLaws
pub mod Arranged
pub mod Fits
pub mod Unique
pub mod Worked
