use Rattle.irig_patch.proofs.{JoinedRuns.patches_join, ScriptRuns.as_long, ScriptRuns.run_made, ScriptRuns.run_stops, ScriptRuns.run_writes}
use Rattle.irig_patch.proofs.law.patches_are_scripts.Goals as goal

pub returns : goal.returns
returns c = record { make = run_made; stop = run_stops; write = run_writes; joined = patches_join; as_long = as_long }
