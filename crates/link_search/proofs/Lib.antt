pub mod OrderLaws
pub mod WalkLaws
pub mod StepLaws
pub mod FindLaws
pub mod NearLaws
pub mod AddLaws
