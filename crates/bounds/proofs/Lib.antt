pub mod Encloses
pub mod Follows
pub mod Phases
pub mod Slides
pub mod SmallErrors
