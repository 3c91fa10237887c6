pub mod Rows
pub mod Bytes
pub mod Derivations
pub mod Image
pub mod Origins
pub mod Questions
pub mod Kinds
