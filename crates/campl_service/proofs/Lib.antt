pub mod Actions
pub mod Examples
pub mod Lines
pub mod Numbers
pub mod Values
pub mod Printed
pub mod Writings
