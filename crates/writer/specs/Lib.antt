pub mod Writer
pub mod Count
pub mod Cases
