pub mod Numbers
pub mod Templates
