pub mod Passing
pub mod Exactness
pub mod ByRule
pub mod Braces
mod Examples
