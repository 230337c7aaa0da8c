-- What `src/` promises of a line; `Engine` for the workers inside. Assumes nothing.
pub mod Sizes
pub mod Line
pub mod Engine
