-- What internal contracts need.
pub mod Entering
