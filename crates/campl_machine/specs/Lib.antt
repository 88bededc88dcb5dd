pub mod Names
pub mod Machine
pub mod Independence
pub mod Runs
pub mod Graph
pub mod Changes
pub mod Progress
pub mod Programs
