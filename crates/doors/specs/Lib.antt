-- What the laws of the doors speak of. Assumes nothing.
pub mod Rows
