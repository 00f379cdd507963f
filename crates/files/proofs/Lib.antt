-- The laws that this crate's proofs cite, and the theorems.
pub mod BitLaws
pub mod AskLaws
pub mod CodeLaws
pub mod CallLaws
pub mod FileLaws
pub mod Theorems
