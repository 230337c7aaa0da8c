-- The laws of this crate. Assumes nothing.
pub mod FrameLaws
pub mod GroundLaws
pub mod ExtentLaws
pub mod RowsLaws
mod BegunLaws
mod TurnLaws
pub mod PartLaws
pub mod Unique
