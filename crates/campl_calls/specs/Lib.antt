pub mod Halting
pub mod Identities
pub mod Handing
pub mod Headings
