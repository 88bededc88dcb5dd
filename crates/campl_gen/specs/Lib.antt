pub mod Generated
pub mod Blocks
