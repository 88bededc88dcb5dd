pub mod Gathers
pub mod Racing
