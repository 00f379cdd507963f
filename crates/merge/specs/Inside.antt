-- What internal contracts need: representation, invariants, and the records that a `requires` names.
pub mod Chain
pub mod Leaves
pub mod Tables
pub mod Steps
pub mod Table
