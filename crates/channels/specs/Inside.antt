-- What internal contracts need: where each channel's work lies, and the records that a `requires` names.
pub mod Both
