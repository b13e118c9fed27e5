pub mod ReferenceSteps
pub mod ValueSteps
pub mod AttributeSteps
pub mod DoctypeSteps
pub mod TagSteps
pub mod PageSteps
