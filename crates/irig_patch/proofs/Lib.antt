pub mod Inverts
pub mod InvertLines
pub mod ScriptLines
pub mod ScriptRuns
pub mod JoinedRuns
pub mod CommentedRuns
