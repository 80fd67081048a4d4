pub mod Refusal
pub mod Number
pub mod Tests
pub mod Below
