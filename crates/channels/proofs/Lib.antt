pub mod LeavesLaws
pub mod EndLaws
pub mod SolveLaws
pub mod AskLaws
pub mod CallLaws
pub mod Theorems
