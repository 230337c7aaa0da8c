-- The laws that the crates above cite, and that of one outcome. Assumes nothing.
pub mod Parts
pub mod BlendLaws
pub mod ShiftLaws
pub mod FadeLaws
pub mod Unique
