pub mod Asymmetric
pub mod Flat
