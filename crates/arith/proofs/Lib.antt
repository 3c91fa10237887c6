pub mod Integers
pub mod Divisors
pub mod Dots
pub mod LowestForms
pub mod Floors
