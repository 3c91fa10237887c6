pub mod Bounds
pub mod Ends
pub mod Meaning
pub mod Text
