pub mod Inside
pub mod Taken
pub mod Cuts
pub mod Braces
pub mod Spelled
