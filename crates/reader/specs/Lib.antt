pub mod Refusals
pub mod Reading
pub mod Shown
pub mod Exactness
pub mod Lines
