pub mod CurveTemplates
pub mod FormsOfLines
pub mod KindsRead
pub mod LinesRead
pub mod ListedNumbers
pub mod Openings
