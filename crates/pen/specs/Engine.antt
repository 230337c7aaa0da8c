-- What workers inside `src/` do, on the way to the definitions of `draw`. No definition of the document and no
-- law rests on these: a reader may skip them. Assumes nothing.
pub mod Spans
