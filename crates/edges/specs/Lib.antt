pub mod Edges
pub mod Evaluating
pub mod Inside
pub mod Theorems
