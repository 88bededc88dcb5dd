pub mod Turns
pub mod Meaning
pub mod Endings
