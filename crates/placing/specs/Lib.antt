pub mod Plan
pub mod Files
pub mod Made
pub mod Joining
pub mod Views
