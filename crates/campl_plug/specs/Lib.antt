pub mod Links
pub mod Tree
pub mod Order
pub mod Faults
pub mod Labels
pub mod Search
pub mod TreeOrder
pub mod FirstFault
