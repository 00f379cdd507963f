pub mod Demand3
pub mod Theorems
pub mod RegionMap
pub mod BookEntry
pub mod Wind
