-- What `src/lib.rt` promises. No definition of the document: `display` shows that each comes to the single
-- calls in order. Assumes nothing.
pub mod Loads
