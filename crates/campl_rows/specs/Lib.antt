pub mod Steps
pub mod Covered
pub mod Receipts
