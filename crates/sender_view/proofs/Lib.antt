pub mod ViewOf
pub mod StepBy
