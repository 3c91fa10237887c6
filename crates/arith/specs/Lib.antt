pub mod Gcd
pub mod Dot
pub mod Lowest
