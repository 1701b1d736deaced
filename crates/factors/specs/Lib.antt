pub mod Factors
pub mod Figures
pub mod Money
pub mod Periods
pub mod Promises
pub mod Rolling
pub mod Tally
pub mod Worst
