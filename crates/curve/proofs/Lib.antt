pub mod LinesFacts
mod LoadingSteps
