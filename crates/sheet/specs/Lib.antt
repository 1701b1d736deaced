pub mod Checks
pub mod Faults
pub mod Kinds
pub mod Lines
pub mod Reads
pub mod Writes
