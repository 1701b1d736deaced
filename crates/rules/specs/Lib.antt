pub mod Check
pub mod Contract
pub mod Flags
pub mod Least
pub mod ReadingsCheck
pub mod Terms
pub mod TermsCheck
