use Rattle.std.proofs.Common.{◌≡◌, true, take}
use Rattle.std.specs.Prelude.{not}
use Rattle.std.specs.List.{list_all}
use Rattle.irig_index.specs.declared.record.Record.{Record}
use Rattle.irig_edit.specs.State.State.{frames_of}
use Rattle.irig_script.specs.Print.Fine.{is_fine}
use Rattle.irig_script.proofs.print.fine.is_none_fine.Given as goal

abbrev pub invariant-loop-index : goal.invariant-loop-index
invariant-loop-index l = list_all (λ (r : Record). not (is_fine r.verdict)) (take l.index (frames_of l.session.state)) ≡ true
