pub mod Rows
pub mod Closure
pub mod Refusals
pub mod Examples
