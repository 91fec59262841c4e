mod KeptFiles
mod Lifted
mod LogSteps
mod Outputs
