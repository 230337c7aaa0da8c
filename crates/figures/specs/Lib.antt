-- What the figures program's calls of a screen promise beyond the display's own. Assumes nothing.
pub mod Often
