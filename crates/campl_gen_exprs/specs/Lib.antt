pub mod Emission
pub mod Functions
pub mod Scopes
pub mod Sources
pub mod View
