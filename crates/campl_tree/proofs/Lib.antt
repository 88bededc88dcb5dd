mod NameText
pub mod Views
mod Examples
