-- What internal contracts need.
pub mod Lines
pub mod Folds
pub mod Booked
