pub mod Text
pub mod Likely
pub mod LikelyLaw
