use Rattle.std.proofs.Common.{◌≡◌, ◌++◌, take}
use Rattle.irig_guarding.specs.Repair.{texts}
use Rattle.irig_script.specs.Obey.Run.{unlines}
use Rattle.irig_guarding.proofs.printing.put_lines.Given as goal

abbrev pub invariant-loop-line : goal.invariant-loop-line
invariant-loop-line l = l.out.items ≡ l.fn.out.items ++ unlines (texts (take l.line-index l.lines))
