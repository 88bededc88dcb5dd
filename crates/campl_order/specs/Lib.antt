pub mod Orders
pub mod Boards
pub mod Waiting
