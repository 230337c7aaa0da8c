-- What holds of every run. Assumes nothing.
pub mod RunLaws
pub mod WriteLaws
