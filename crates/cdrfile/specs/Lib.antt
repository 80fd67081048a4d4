pub mod Statement
pub mod File
pub mod Order
pub mod Laws
pub mod Fixed
pub mod Needs
