use Rattle.std.proofs.Common.{◌≡◌, ◌++◌, [], ℕ, List, true, length}
use Rattle.std.specs.Prelude.{◌↔◌}
use Rattle.std.specs.Io.KnownBytes.{Appends}
use Rattle.irig_diff.proofs.printing.print.Given as goal

-- the bytes that are printed so far, with those that are still to come
abbrev pub invariant-parts : goal.invariant-parts
invariant-parts g l = (so_far : List ℕ)
    × (so_far ++ g.T.Text.rest l.text ≡ g.T.Text.rest l.fn.text)
    × (l.empty ≡ true ↔ so_far ≡ [])
    × Appends (g.W.Write.contents l.fn.out) (g.W.Write.contents l.out) so_far

-- the bytes that are still to come
abbrev pub decreases-parts : goal.decreases-parts
decreases-parts g l = length (g.T.Text.rest l.text)
