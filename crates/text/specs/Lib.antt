-- What the workers of `src/lib.rt` promise each other; what text is stands in `draw`. Assumes nothing.
pub mod Engine
