pub mod Choice
pub mod Halves
pub mod Sorted
