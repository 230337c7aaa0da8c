-- The laws of this crate, for `paint` too. Assumes nothing.
pub mod DrawLaws
pub mod FitLaws
pub mod LineLaws
pub mod GroundLaws
pub mod HidingLaws
