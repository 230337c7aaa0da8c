-- The laws that the crates above cite. Assumes nothing.
pub mod Tests
pub mod Choice
pub mod Tab
pub mod Upto
pub mod First
pub mod Zero
pub mod Room
pub mod Sum
pub mod Bits
pub mod Digits
pub mod Row
pub mod Run
pub mod Steps
pub mod Over
pub mod Cut
pub mod Little
pub mod Call
