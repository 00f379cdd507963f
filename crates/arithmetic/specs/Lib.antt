pub mod Rounding
pub mod Intervals
pub mod Doubtful
pub mod Evaluating
pub mod Inside
