pub mod Inside
pub mod Left
pub mod Record
