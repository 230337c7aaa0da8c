-- The laws that proofs here and in `display` cite. Assumes nothing.
pub mod LoadLaws
pub mod WriteLaws
