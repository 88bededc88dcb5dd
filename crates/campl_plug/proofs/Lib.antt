pub mod Places
pub mod Paths
pub mod Counts
pub mod Labelled
pub mod Trees
pub mod Searched
pub mod Found
pub mod Marks
pub mod Cycles
pub mod Peeled
pub mod OneOrder
pub mod OneFault
pub mod Ordered
pub mod Faulted
mod Examples
