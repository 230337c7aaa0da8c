-- What `src/lib.rt` promises: `River` for callers; `Engine` for workers inside, which a reader may skip. Assumes
-- nothing.
pub mod River
pub mod Engine
