pub mod Places
pub mod Reader
pub mod Frame
pub mod Parts
