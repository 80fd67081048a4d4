pub mod Laid
pub mod Numbered
pub mod Lost
pub mod Told
pub mod Private
pub mod Examples
