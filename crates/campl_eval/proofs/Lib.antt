pub mod Size
pub mod Acts
pub mod Kept
pub mod Making
pub mod Chunked
pub mod Leaping
pub mod Passed
