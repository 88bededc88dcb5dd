mod Copies
pub mod Views
