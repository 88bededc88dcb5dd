pub mod Grammar
pub mod Reading
pub mod Verdicts
pub mod Tests
pub mod Brackets
pub mod OneKind
pub mod Example
