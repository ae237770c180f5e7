-- The laws of the definitions.
pub mod PaddingLaws
pub mod OperandLaws
pub mod StackLaws
pub mod StepLaws
pub mod RunLaws
pub mod MembershipLaws
pub mod ShapeLaws
mod Cases
