pub mod HeadLaws
pub mod LowLaws
