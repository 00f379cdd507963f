-- What internal contracts need.
pub mod Asking
pub mod Gates
pub mod Header
