pub mod Alike
pub mod Maps
pub mod Orders
pub mod InHeaders
