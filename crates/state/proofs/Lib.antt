pub mod Indicator
