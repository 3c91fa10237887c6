pub mod Nearest
pub mod Simplest
pub mod Edge
pub mod Dyadic
pub mod Spans
