use Rattle.irig_stamps.specs.HoleRows.{json_end, json_span}
use Rattle.irig_stamps.proofs.HoleSteps.{appended}
use Rattle.irig_stamps.proofs.pending.put_json.Goals as goal

pub returns : goal.returns
returns c = appended c.put_json_end.result _ _ _ (json_span c.args.stretch.now) (json_end c.args.stretch.now) c.in_ok-put_json_span.ensures
    c.put_json_end.ensures
