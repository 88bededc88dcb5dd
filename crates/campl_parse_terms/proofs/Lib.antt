pub mod LineSteps
pub mod Starts
pub mod Expressions
pub mod Cases
