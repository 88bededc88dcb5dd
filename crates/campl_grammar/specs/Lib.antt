pub mod Terminal
pub mod Names
pub mod Trees
pub mod Rules
pub mod Tables
