pub mod Format
pub mod Questions
pub mod Calls
pub mod Theorems
pub mod Evaluating
pub mod Inside
