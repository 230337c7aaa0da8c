-- What `src/` promises to `colours` and `span`, in words that only they use. Assumes nothing.
pub mod Engine
