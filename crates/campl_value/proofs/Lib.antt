pub mod Depths
pub mod Examples
pub mod Lists
pub mod Texts
pub mod Escapes
