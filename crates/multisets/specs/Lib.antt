-- Lists as multisets: how many elements pass a test, and how many two lists share.
pub mod Passing
pub mod InBoth
pub mod Surplus
pub mod Merge
