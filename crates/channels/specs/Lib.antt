pub mod Call
pub mod Theorems
pub mod Evaluating
pub mod Inside
