pub mod Network
pub mod Book
pub mod BookTheorems
pub mod Theorems
pub mod Evaluating
pub mod Inside
