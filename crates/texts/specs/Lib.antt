-- What `src/lib.rt` promises of lines that come in blocks and of those that are printed; `Engine` for what
-- it answers of them. Assumes nothing.
pub mod Lines
pub mod Replies
pub mod Engine
