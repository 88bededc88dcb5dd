pub mod Slots
pub mod Entries
pub mod Chosen
pub mod Told
pub mod Turns
