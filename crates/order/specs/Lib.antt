-- What `src/lib.rt` promises beside the definitions in `words`: `Layout` for callers, `Engine` for the workers
-- inside. Assumes nothing.
pub mod Layout
pub mod Engine
