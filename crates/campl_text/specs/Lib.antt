pub mod Counts
pub mod Given
pub mod Marked
pub mod Reading
pub mod Shelved
pub mod Taken
