pub mod HeldNames
pub mod HcaseRows
pub mod Needs
pub mod Generated
pub mod Runs
