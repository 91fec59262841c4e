-- A script runs on a dump in one way.
use Rattle.std.proofs.Common.{refl}
use Rattle.irig_edit.specs.Session.Runs.{OneOutcome}
use Rattle.irig_script.specs.{Obey.OneDumpRun.OneDumpRun, Obey.OneDumpRun.run_in, Obey.OneRun.BeginTheSame}
use Rattle.irig_script.proofs.{LawLemmas.SameOpening.opened_one, LawLemmas.SameRun.one_run}

pub one_dump_run : OneOutcome → OneDumpRun
one_dump_run outcome wire chosen source script one other printed put met =
    let begin : BeginTheSame (run_in one) (run_in other) = record {
      status = refl;
      machine = opened_one wire source chosen one.on.first other.on.first one.on.opened other.on.opened;
      printed = printed;
      put = put;
    } in
    one_run outcome script (run_in one) (run_in other) begin met
