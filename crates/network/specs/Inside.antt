-- What internal contracts need: representation, invariants, and the records that a `requires` names.
pub mod Begin
pub mod Find
pub mod Log
pub mod Net
pub mod Popped
pub mod Reduce
pub mod Rep
pub mod Settle
pub mod Simple
pub mod Sizes
pub mod TurnIs
