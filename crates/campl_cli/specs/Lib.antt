pub mod Faults
pub mod Source
pub mod Scripts
pub mod Refusals
pub mod Runs
pub mod Told
pub mod Answer
pub mod Performance
