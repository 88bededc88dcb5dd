pub mod Onward
pub mod Faults
