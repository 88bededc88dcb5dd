pub mod Sets
pub mod Fuel
pub mod Found
pub mod Only
pub mod Verdict
pub mod Passed
pub mod Lives
pub mod Exact
pub mod Balance
pub mod Lists
pub mod Induction
mod Examples
