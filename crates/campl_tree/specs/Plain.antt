pub mod SeqType
pub mod ChanType
pub mod Pattern
pub mod Expr
pub mod Process
pub mod Decl
