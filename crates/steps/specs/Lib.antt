-- What `src/` promises: where a line's parts stand, and its steps; `Engine` for the workers inside.
-- Assumes nothing.
pub mod Form
pub mod Steps
pub mod Engine
