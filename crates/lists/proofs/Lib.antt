pub mod SeqLaws
pub mod AllLaws
pub mod SegLaws
pub mod PartLaws
