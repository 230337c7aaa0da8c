-- What a plan holds, for `scanline` and `paint`. No definition of the document and no law rests on these: a
-- reader may skip them. Assumes nothing.
pub mod Plan
