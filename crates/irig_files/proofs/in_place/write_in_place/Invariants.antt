use Rattle.std.proofs.Common.{◌≡◌, ◌++◌, ℕ, List, length}
use Rattle.std.specs.Io.KnownBytes.{Appends}
use Rattle.irig_files.proofs.in_place.write_in_place.Given as goal

-- the bytes that are written so far, with those that are still to come
abbrev pub invariant-loop : goal.invariant-loop
invariant-loop g l = (so_far : List ℕ)
    × (so_far ++ g.T.Text.rest l.text ≡ g.T.Text.rest l.fn.text)
    × (l.count ≡ length so_far)
    × Appends (g.F.Write.contents l.fn.file) (g.F.Write.contents l.file) so_far
