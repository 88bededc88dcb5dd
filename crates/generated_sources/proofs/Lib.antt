pub mod Listed
pub mod Sound
pub mod Runs
pub mod Listing
