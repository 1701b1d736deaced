pub mod RunFacts
pub mod FormsPass
pub mod LooserLimits
pub mod PassedForms
pub mod Completions
pub mod WrongBytes
