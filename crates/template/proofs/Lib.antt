pub mod DigitsRead
pub mod FilledRead
