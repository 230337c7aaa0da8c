-- What `src/` promises: `Painted` for callers, of the definitions of `frames`, and `Given` of a scene; `Engine` for the workers
-- inside. Assumes nothing.
pub mod Given
pub mod Painted
pub mod Engine
