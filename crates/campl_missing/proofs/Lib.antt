pub mod Views
pub mod Slices
pub mod Forms
pub mod Seen
pub mod Tried
pub mod Depths
pub mod Openings
pub mod Missed
pub mod Written
mod Examples
