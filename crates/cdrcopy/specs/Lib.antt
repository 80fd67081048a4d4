pub mod Rewrite
pub mod Copy
