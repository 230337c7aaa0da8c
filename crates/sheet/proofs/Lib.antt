-- The laws that proofs of this crate cite. Assumes nothing.
pub mod Laws
