pub mod Size
pub mod Inside
