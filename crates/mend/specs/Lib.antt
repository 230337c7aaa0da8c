-- What `src/` promises of a line and of an input that comes in blocks, and of a write that fails. Assumes nothing.
pub mod Sizes
pub mod Line
pub mod Blocks
pub mod Failed
