-- The laws of the two loops, for this crate and those above, and that of one outcome. Assumes nothing.
pub mod HexLaws
pub mod Unique
