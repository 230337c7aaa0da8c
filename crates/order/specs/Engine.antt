-- What workers inside `src/` ask and do, on the way to the definitions in `words`. No definition of
-- the document and no law rests on these: a reader may skip them. Assumes nothing.
pub mod Found
