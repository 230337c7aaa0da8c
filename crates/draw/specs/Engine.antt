-- What the workers here and in `boxes`, `text` and `pen` ask and do, on the way to the definitions beside this
-- file. No definition of the document and no law rests on these: a reader may skip them. Assumes nothing.
pub mod Tables
pub mod Rows
