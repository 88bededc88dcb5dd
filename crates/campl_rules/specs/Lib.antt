pub mod Judged
pub mod Given
pub mod Rows
pub mod Faults
pub mod Found
