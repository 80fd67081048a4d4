pub mod Reason
pub mod Closing
pub mod Closed
pub mod Needs
pub mod Laws
