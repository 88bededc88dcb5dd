pub mod Turns
pub mod Weights
pub mod Falls
