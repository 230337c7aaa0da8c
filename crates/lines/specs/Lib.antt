-- What `src/` promises of a sheet that comes in blocks, over what `line` says of one line; `Engine` for
-- the workers inside. Assumes nothing.
pub mod Sizes
pub mod Sheet
pub mod Blocks
pub mod Calls
pub mod Engine
