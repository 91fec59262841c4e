use Rattle.std.proofs.Common.{subst}
use Rattle.irig_saved.specs.{SavedText.saved_lines, Ranges.IsSaved, Faults.ReachesSteps, Reading.Stops, Reading.IsStop, declared.stop.Stop.Stop}
use Rattle.irig_saved.proofs.FaultLines.{line_of_stop, line_of_rest, whole_text, whole_short}
use Rattle.irig_saved.proofs.reader.parse.Goals as goal

pub returns-in-Ok-default-empty-clause-exact : goal.returns-in-Ok-default-empty-clause-exact
returns-in-Ok-default-empty-clause-exact c = (
  c.in-Ok-default-empty.ensures.lawful,
  whole_text c.in-Ok-default-empty.saved c.args.text.now c.in-Ok-default-empty.field-0-1.now c.in-Ok-default-empty.ensures c.in-Ok-default-empty.len_below,
)

pub returns-in-Ok-default-empty-clause-short : goal.returns-in-Ok-default-empty-clause-short
returns-in-Ok-default-empty-clause-short c =
    whole_short c.in-Ok-default-empty.saved c.args.text.now c.in-Ok-default-empty.field-0-1.now c.in-Ok-default-empty.ensures

pub returns-in-Ok-clause-exact : goal.returns-in-Ok-clause-exact
returns-in-Ok-clause-exact c =
    line_of_rest c.in-Ok.field-0-0 c.args.text.now c.in-Ok.rest.now c.line_at.result c.in-Ok.ensures c.in-Ok.len_at_least c.line_at.ensures

pub returns-in-Err-At-clause-exact : goal.returns-in-Err-At-clause-exact
returns-in-Err-At-clause-exact c =
    let text = c.args.text.now in
    let P : Stop → Type 0 = λ stop. IsStop (λ rest. Stops IsSaved saved_lines text rest) (ReachesSteps text) stop in
    line_of_stop text c.in-Err-At.rest.now c.line_at-in-Err-At.result (subst P c.in-Err-At.field-0-is c.in-Err-At.ensures) c.line_at-in-Err-At.ensures
