-- The laws of this crate. Assumes nothing.
pub mod HostLaws
pub mod Unique
