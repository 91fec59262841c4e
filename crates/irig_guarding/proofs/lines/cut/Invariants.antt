use Rattle.std.proofs.Common.{◌≡◌, ◌≤◌, ◌++◌, take}
use Rattle.irig_script.specs.Obey.Run.{IsPlain, unlines}
use Rattle.irig_guarding.specs.Repair.{texts}
use Rattle.irig_guarding.proofs.LineLemmas.{part}
use Rattle.irig_guarding.proofs.lines.cut.Given as goal

abbrev pub invariant-loop-at : goal.invariant-loop-at
invariant-loop-at l = record {
  order : l.begin ≤ l.at;
  plain : IsPlain (part l.begin l.at l.script);
  read : take l.at l.script ≡ unlines (texts l.lines.items) ++ part l.begin l.at l.script;
}
