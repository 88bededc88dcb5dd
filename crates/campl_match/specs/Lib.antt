pub mod Flattened
pub mod Growing
pub mod View
