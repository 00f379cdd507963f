pub mod Generator
pub mod Call
pub mod Theorems
pub mod Evaluating
