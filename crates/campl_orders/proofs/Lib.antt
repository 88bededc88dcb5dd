pub mod Numerals
pub mod Parts
pub mod Slots
pub mod Agreement
mod Examples
