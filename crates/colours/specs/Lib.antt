-- What `src/` promises: `Rows` for callers; `Engine` for workers inside, which a reader may skip. Assumes
-- nothing.
pub mod Rows
pub mod Engine
