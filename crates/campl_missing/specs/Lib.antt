pub mod View
pub mod Heads
pub mod Texts
