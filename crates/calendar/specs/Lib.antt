pub mod Every
pub mod Calendar
pub mod FirstDay
pub mod March
pub mod Bound
