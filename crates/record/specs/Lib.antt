pub mod Release
pub mod Record
pub mod Step
pub mod Walk
pub mod Format
pub mod HeaderOctets
pub mod Order
