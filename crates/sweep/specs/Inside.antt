-- What internal contracts need: representation, invariants, and the records that a `requires` names.
pub mod Finish
pub mod Gates
pub mod Mean
pub mod Planning
