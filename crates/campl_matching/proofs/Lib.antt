pub mod Bindings
mod Examples
