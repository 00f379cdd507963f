pub mod Label
pub mod Regions
pub mod Locals
pub mod Evaluating
pub mod Inside
