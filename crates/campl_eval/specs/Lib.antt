pub mod View
pub mod Flow
pub mod Turn
pub mod Chunks
pub mod Leaps
