pub mod Bindings
pub mod Emitting
pub mod FunctionCode
pub mod Nodes
pub mod Places
pub mod Scopes
pub mod Sources
