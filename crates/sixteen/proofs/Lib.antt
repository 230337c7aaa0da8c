-- The laws of the crate, for `colours` and `span` too. Assumes nothing.
pub mod PartLaws
pub mod LaneLaws
