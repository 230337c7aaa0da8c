-- The laws of mending, and those that the proofs of `src/` rest on. Assumes nothing.
pub mod ListLaws
pub mod AxisLaws
pub mod PlaceLaws
pub mod DepthLaws
pub mod ImageLaws
pub mod MendLaws
pub mod Untouched
pub mod OrderLaws
pub mod KindLaws
pub mod Unique
pub mod Worked
pub mod StepLaws
pub mod Hints
