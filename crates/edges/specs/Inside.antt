-- What internal contracts need: representation, invariants, and the records that a `requires` names.
pub mod GatePairs
pub mod Gather
pub mod Order
pub mod Sees
pub mod Sorts
pub mod Whole
