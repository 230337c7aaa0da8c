-- What a frame is, from one layer at a pixel to the whole of it, and what painting refuses: 01
-- "Painting", "Graphics layers", "Answers by number", and 02 K3. Assumes nothing.
pub mod Scene
pub mod Pixel
pub mod Band
pub mod Frame
pub mod Line
