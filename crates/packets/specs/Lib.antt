pub mod Packet
pub mod Laws
pub mod Fold
pub mod Stands
pub mod Work
