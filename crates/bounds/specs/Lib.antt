pub mod Bounds
pub mod Errors
pub mod Grace
pub mod Kept
pub mod Laws
pub mod Track
pub mod Window
