pub mod Check
pub mod Few
