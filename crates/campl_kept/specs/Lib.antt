pub mod View
pub mod Keeps
pub mod Straight
