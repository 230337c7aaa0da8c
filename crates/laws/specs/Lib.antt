-- What the laws speak of. Assumes nothing.
pub mod Painting
pub mod Lines
pub mod Wider
pub mod Figures
pub mod States
pub mod Small
pub mod Impostors
pub mod Rows
pub mod Worked
pub mod OneBit
