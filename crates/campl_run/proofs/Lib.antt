pub mod Counting
pub mod Leaving
pub mod Lining
pub mod Telling
