-- What internal contracts need: the structs that are handed on, and what drawing asks of the window's memory.
pub mod Drawing
