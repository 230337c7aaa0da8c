-- The laws that the proofs here rest on; `BoxLaws` serves `pen` too. Assumes nothing.
pub mod BoxLaws
mod LineLaws
