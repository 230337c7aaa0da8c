-- What `src/` promises to `scanline` and `paint`. Assumes nothing.
pub mod Engine
