use Rattle.std.proofs.Common.{◌≡◌, ℕ, None, get_or}
use Rattle.irig_guarding.proofs.known.nothing_known.Given as goal

abbrev pub invariant-loop-index : goal.invariant-loop-index
invariant-loop-index l = (place : ℕ) → get_or l.known_markers.items place None ≡ None
