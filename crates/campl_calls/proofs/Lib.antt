mod Turns
mod Values
mod Called
mod Handed
mod Noted
mod Entered
pub mod Headed
