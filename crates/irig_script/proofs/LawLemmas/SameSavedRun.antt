-- A script runs on a saved session in one way.
use Rattle.std.proofs.Common.{sym, ◌∙◌}
use Rattle.irig_edit.specs.{Opened.GoingOn.GoesOn, Session.Runs.OneOutcome}
use Rattle.irig_script.specs.{Obey.Machine.Machine, Obey.OneDumpRun.run_in, Obey.OneRun.BeginTheSame, Obey.SavedRun.RunsOn}
use Rattle.irig_script.proofs.LawLemmas.SameRun.{one_run}

pub runs_on : OneOutcome → (m : Machine) → GoesOn m → RunsOn m
runs_on outcome m goes_on script chosen one other begun printed put met =
    let begin : BeginTheSame one (run_in other) = record {
      status = begun.0;
      machine = begun.1 ∙ sym (goes_on chosen other.on.first other.on.opened);
      printed = printed;
      put = put;
    } in
    one_run outcome script one (run_in other) begin met
