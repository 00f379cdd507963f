pub mod Text
pub mod Unfold
pub mod Book
pub mod Theorems
pub mod Evaluating
pub mod Inside
