-- The laws of the crate; `RowLaws` and `PixelLaws` are for the crates above, `Unique` is that of one
-- outcome. Assumes nothing.
pub mod RowLaws
pub mod PixelLaws
mod RowParts
pub mod Unique
