pub mod Side
pub mod Plain
pub mod View
pub mod Places
