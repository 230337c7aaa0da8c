-- What `src/` promises: `Span` for callers; `Engine` for workers inside, which a reader may skip. Assumes
-- nothing.
pub mod Span
pub mod Engine
