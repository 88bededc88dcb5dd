pub mod Same
pub mod Names
pub mod Turns
pub mod Used
pub mod Trees
pub mod Shares
pub mod Told
