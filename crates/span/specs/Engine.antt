-- What workers inside do: the contracts of private functions, in words that only they use. No definition
-- of the document and no law rests on these; a reader may skip them. Assumes nothing.
pub mod Laid
pub mod Tints
