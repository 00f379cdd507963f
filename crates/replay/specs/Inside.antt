-- What internal contracts need: representation, invariants, and the records that a `requires` names.
pub mod Gates
pub mod Start
pub mod Words
