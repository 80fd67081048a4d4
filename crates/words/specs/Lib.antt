pub mod Words
pub mod Laws
pub mod Unrouted
pub mod Sets
pub mod HeldIn
