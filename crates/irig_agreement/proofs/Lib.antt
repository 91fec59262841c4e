mod ChangeFacts
mod DoubtLists
mod NearTimes
mod SameRuns
