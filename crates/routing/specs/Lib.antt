pub mod Prefix
pub mod Best
