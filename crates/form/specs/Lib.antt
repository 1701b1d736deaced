pub mod Alphabet
pub mod Grammar
pub mod Misfits
pub mod Scanning
