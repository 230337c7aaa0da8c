-- The laws of the crate: `FractionLaws` and `RiverLaws` are for the crates above, `Unique` is that of one
-- outcome. Assumes nothing.
pub mod FractionLaws
pub mod RiverLaws
mod BitLaws
mod RowLaws
pub mod Figures
pub mod Unique
pub mod Impostors
