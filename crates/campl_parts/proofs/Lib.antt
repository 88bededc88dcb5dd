pub mod Choosing
pub mod Journals
pub mod Living
pub mod Padded
pub mod Places
pub mod Served
pub mod Tabled
