pub mod FindLaws
pub mod Unique
