pub mod NameSet
pub mod Filling
pub mod Tables
pub mod Entries
pub mod Judges
pub mod Scope
