-- Marks that are moved, and moved back. This project's own.
use Rattle.std.proofs.Common.{◌≡◌, ◌≤◌, ◌+◌, ℕ, suc, ℤ, Bool, true, false, List, [], ◌∷◌, Option}
use Rattle.std.proofs.Common.{Some, None, length, refl, ap, ap₂, arith}
use Rattle.std.specs.List.{AllByRecursion}
use Rattle.irig_track.specs.Shifts.{ahead, back}
use Rattle.irig_track.proofs.Inverses.{Opposite}
use Rattle.irig_edit.specs.State.Marks.{AllMayMove, marks_moved, moved_time}
use Rattle.irig_edit.specs.State.State.{IsMark}

-- a time moved, and moved back
time_back : (d e : ℤ) (t : ℕ) → Opposite d e → back d ≤ t + ahead d
    → moved_time e (moved_time d t) ≡ t
time_back d e t opposite from_zero =
    let on = opposite.on in let off = opposite.off in omega (arith, from_zero)

-- marks moved, and moved back
pub marks_back : (micros : ℕ) (d e : ℤ) (named : List Bool) (marks : List (Option ℕ)) → Opposite d e
    → AllMayMove micros d named marks → marks_moved e named (marks_moved d named marks) ≡ marks
marks_back micros d e [] marks opposite may = refl
marks_back micros d e (named ∷ more) [] opposite may = refl
marks_back micros d e (true ∷ more) (Some t ∷ marks) opposite may =
    ap₂ (λ (n : ℕ) (ms : List (Option ℕ)). Some n ∷ ms) (time_back d e t opposite may.0.0)
    (marks_back micros d e more marks opposite may.1)
marks_back micros d e (true ∷ more) (None ∷ marks) opposite may = absurd may.0
marks_back micros d e (false ∷ more) (mark ∷ marks) opposite may =
    ap (λ (ms : List (Option ℕ)). mark ∷ ms) (marks_back micros d e more marks opposite may)

-- and they may be moved back
pub may_move_back : (micros : ℕ) (d e : ℤ) (named : List Bool) (marks : List (Option ℕ))
    → Opposite d e
    → AllByRecursion (IsMark micros) marks → AllMayMove micros d named marks
    → AllMayMove micros e named (marks_moved d named marks)
may_move_back micros d e [] marks opposite within may = tt
may_move_back micros d e (named ∷ more) [] opposite within may = tt
may_move_back micros d e (true ∷ more) (Some t ∷ marks) opposite within may =
    let on = opposite.on in let off = opposite.off in (
      (omega (arith, may.0.0), omega (arith, may.0.0, within.0)),
      may_move_back micros d e more marks opposite within.1 may.1,
    )
may_move_back micros d e (true ∷ more) (None ∷ marks) opposite within may = absurd may.0
may_move_back micros d e (false ∷ more) (mark ∷ marks) opposite within may =
    may_move_back micros d e more marks opposite within.1 may

-- moved marks stay within the length
pub marks_within : (micros : ℕ) (d : ℤ) (named : List Bool) (marks : List (Option ℕ))
    → AllByRecursion (IsMark micros) marks
    → AllMayMove micros d named marks → AllByRecursion (IsMark micros) (marks_moved d named marks)
marks_within micros d [] marks within may = within
marks_within micros d (named ∷ more) [] within may = tt
marks_within micros d (true ∷ more) (Some t ∷ marks) within may =
    (omega (arith, may.0.1), marks_within micros d more marks within.1 may.1)
marks_within micros d (true ∷ more) (None ∷ marks) within may = absurd may.0
marks_within micros d (false ∷ more) (mark ∷ marks) within may =
    (within.0, marks_within micros d more marks within.1 may)

-- and are as many
pub length-marks_moved : (d : ℤ) (named : List Bool) (marks : List (Option ℕ))
    → length (marks_moved d named marks) ≡ length marks
length-marks_moved d [] marks = refl
length-marks_moved d (named ∷ more) [] = refl
length-marks_moved d (named ∷ more) (mark ∷ marks) = ap suc (length-marks_moved d more marks)
