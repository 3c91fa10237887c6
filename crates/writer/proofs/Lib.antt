pub mod Written
pub mod Pairs
