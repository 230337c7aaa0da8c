-- What the fields of the words are, and what the crates above promise of them. Assumes nothing.
pub mod Kinds
pub mod Fields
pub mod Check
pub mod Order
pub mod Pictures
pub mod Image
pub mod Change
