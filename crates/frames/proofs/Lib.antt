-- The laws of frames. Assumes nothing.
pub mod PixelLaws
pub mod BandLaws
pub mod CallerLaws
pub mod LineLaws
