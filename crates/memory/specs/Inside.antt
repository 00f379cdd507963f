-- What internal contracts need: representation, invariants, and the records that a `requires` names.
pub mod Layout
pub mod Sort
pub mod Tree
pub mod TwoKeys
