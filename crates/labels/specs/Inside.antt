-- What internal contracts need: representation, invariants, and the records that a `requires` names.
pub mod Areas
pub mod Bands
pub mod Forest
pub mod Numbering
pub mod Sheet
