-- What `src/` promises to `paint`. Assumes nothing.
pub mod Engine
