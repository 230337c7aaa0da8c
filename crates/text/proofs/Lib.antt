-- The laws that the proofs here rest on; `TextLaws` serves `pen` too. Assumes nothing.
mod BitLaws
mod ValueLaws
pub mod TextLaws
mod LineLaws
