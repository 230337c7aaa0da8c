-- The laws that proofs here cite. Assumes nothing.
mod Kept
