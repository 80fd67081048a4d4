pub mod Settings
pub mod Written
pub mod Cases
pub mod Sets
pub mod Accepted
pub mod Held
