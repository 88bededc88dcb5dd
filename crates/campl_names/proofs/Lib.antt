mod Trees
pub mod Judged
pub mod Sets
pub mod Entries
pub mod Declared
pub mod Scopes
pub mod Judging
pub mod Heads
pub mod Preludes
pub mod Runs
pub mod Wholes
pub mod Acts
pub mod Letters
pub mod Plugs
mod Unlike
mod UnlikeChan
mod TwoEnds
pub mod Fillings
