-- What `src/` and the crates `boxes`, `text` and `pen` promise; `Engine` is for the workers inside. Assumes
-- nothing.
pub mod Instruction
pub mod Box
pub mod Text
pub mod Drawing
pub mod Engine
