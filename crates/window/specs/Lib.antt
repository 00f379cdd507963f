pub mod Median
pub mod Window
pub mod Sequence
pub mod Theorems
pub mod Evaluating
pub mod Inside
