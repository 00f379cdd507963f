pub mod Map
pub mod Evaluating
