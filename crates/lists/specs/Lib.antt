pub mod Seq
pub mod Inside
