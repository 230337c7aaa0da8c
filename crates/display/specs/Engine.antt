-- What workers inside `src/` do, on the way to the definitions beside this. No definition of the document and no law
-- rests on these: a reader may skip them. Assumes nothing.
pub mod Verdict
