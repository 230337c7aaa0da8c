-- Choices by a test, lists by a rule, steps in a row, a written front, calls by their values. Assumes
-- nothing.
pub mod Choice
pub mod Tab
pub mod Runs
pub mod Zero
pub mod Steps
pub mod Over
pub mod Cut
pub mod Little
pub mod Bytes
pub mod Call
