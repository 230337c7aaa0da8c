-- The laws that the proofs here rest on; `Unique` has those of one outcome. Assumes nothing.
mod LineLaws
mod SpanLaws
pub mod Unique
