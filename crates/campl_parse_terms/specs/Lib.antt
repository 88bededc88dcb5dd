pub mod Reads
pub mod Lines
pub mod Pieces
pub mod Patterns
pub mod Expressions
