pub mod Parts
pub mod Wants
pub mod Steps
pub mod Stands
pub mod Local
pub mod Starts
pub mod Runs
