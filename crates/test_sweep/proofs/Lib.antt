pub mod StateLaws
pub mod CallLaws
pub mod Parts
pub mod Exact
