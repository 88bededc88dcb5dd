-- Terminals: tokens as the grammar sees them, each a plain value with its text.
pub mod Terminals
