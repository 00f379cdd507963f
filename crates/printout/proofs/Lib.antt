pub mod DecimalLaws
pub mod LineLaws
pub mod UnfoldLaws
pub mod BookLaws
pub mod BookedLaws
pub mod Theorems
