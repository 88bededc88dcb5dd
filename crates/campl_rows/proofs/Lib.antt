pub mod Listed
pub mod Covered
pub mod Received
pub mod Matched
pub mod Shared
pub mod Arms
