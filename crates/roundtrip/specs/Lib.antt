pub mod Described
pub mod Handed
pub mod Held
pub mod Stepping
pub mod Exactly
pub mod Demand2
