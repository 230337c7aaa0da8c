-- The laws that proofs of this crate cite, those of an input in blocks, that of one outcome, and lines that
-- are computed. Assumes nothing.
pub mod ReplyLaws
pub mod BlockLaws
pub mod Fits
pub mod Unique
pub mod Worked
