pub mod Told
pub mod Taking
pub mod Cases
