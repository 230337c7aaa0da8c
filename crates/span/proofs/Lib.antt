-- The laws of the crate; `OverLaws` and `TintLaws` are for the crates above, `Unique` is that of one outcome. Assumes
-- nothing.
pub mod OverLaws
mod OverParts
mod GroundLaws
mod HideLaws
pub mod TintLaws
pub mod Unique
