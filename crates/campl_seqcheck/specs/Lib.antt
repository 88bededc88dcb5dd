pub mod Judged
pub mod Fitting
pub mod RowPatterns
pub mod Judging
pub mod Functions
pub mod Answered
pub mod Steps
