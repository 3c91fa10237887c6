pub mod Limits
pub mod Orders
pub mod Layers
