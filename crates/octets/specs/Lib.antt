pub mod Splice
pub mod Number
pub mod Alike
