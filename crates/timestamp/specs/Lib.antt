pub mod Timestamp
pub mod LocalTime
pub mod Stamp
