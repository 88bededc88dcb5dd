pub mod Pieces
pub mod Unshown
pub mod Said
pub mod Again
pub mod Examples
