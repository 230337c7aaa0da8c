-- What `src/lib.rt` promises. Assumes nothing.
pub mod Pixel
pub mod Blend
pub mod Shifts
pub mod Fade
