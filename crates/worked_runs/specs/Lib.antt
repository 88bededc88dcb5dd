pub mod Turns
pub mod Deep
