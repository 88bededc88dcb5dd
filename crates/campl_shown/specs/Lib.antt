pub mod Types
pub mod Characters
