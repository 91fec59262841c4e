use Rattle.std.proofs.Common.{◌≡◌, ◌++◌, ℕ, List, take}
use Rattle.std.specs.List.{AllByRecursion}
use Rattle.irig_guarding.specs.{Guarded.IsRemark, Repair.texts, Printed.AreRemarksOf}
use Rattle.irig_script.specs.Obey.Run.{unlines}
use Rattle.irig_guarding.proofs.printing.put_comments.Given as goal

abbrev pub invariant-loop-line : goal.invariant-loop-line
invariant-loop-line l = (remarks : List (List ℕ)) × AllByRecursion IsRemark remarks
    × AreRemarksOf (texts (take l.line-index l.lines)) remarks
    × (l.out.items ≡ l.fn.out.items ++ unlines remarks)
