-- The laws of the doors. Assumes nothing.
pub mod Fits
pub mod Round
pub mod Unique
pub mod Impostors
