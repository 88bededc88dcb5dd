pub mod Earlier
pub mod Matches
pub mod Waits
pub mod Alike
