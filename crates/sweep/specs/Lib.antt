pub mod Sweep
pub mod Questions
pub mod Refusal
pub mod Call
pub mod Entry
pub mod Velocity
pub mod Evaluating
pub mod Inside
