pub mod Halves
pub mod Making
pub mod Actions
pub mod Commands
pub mod Peels
pub mod Known
pub mod View
