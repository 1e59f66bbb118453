pub mod ContentLemmas
pub mod StepLemmas
pub mod CarryLemmas
pub mod MoveSteps
pub mod Refusals
