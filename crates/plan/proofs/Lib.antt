-- The laws of this crate, for `scanline` and `paint` too. Assumes nothing.
pub mod PartLaws
pub mod PlanLaws
