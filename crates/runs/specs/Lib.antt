-- What a run of calls is: request K1. Assumes nothing.
pub mod Run
pub mod Writes
