pub mod Checks
pub mod Orders
pub mod ReadingsFacts
pub mod TermsFacts
