pub mod Unused
pub mod Sums
