-- Facts on the session as a machine.
pub mod Works
pub mod MachineSteps
pub mod Refused
pub mod CallRuns
pub mod GroupLaws
