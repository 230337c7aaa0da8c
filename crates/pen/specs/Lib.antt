-- What the workers of `src/` promise each other; what a list draws stands in `draw`. Assumes nothing.
pub mod Engine
