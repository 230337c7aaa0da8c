-- What mending is, step by step, its list, and what the call promises. Assumes nothing.
pub mod Steps
pub mod Changes
pub mod Image
pub mod Layers
