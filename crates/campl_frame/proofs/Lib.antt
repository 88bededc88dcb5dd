pub mod Listed
pub mod Held
pub mod Alone
pub mod Leaving
pub mod Stays
pub mod Frame
