use Rattle.std.proofs.Common.{◌<◌, ℕ}
use Rattle.irig_law.specs.Seens.{MeetAt}
use Rattle.irig_law.proofs.fits.meet.Given as goal

abbrev pub invariant-loop-place : goal.invariant-loop-place
invariant-loop-place l = (i : ℕ) → i < l.place → MeetAt l.after l.before l.periods i → ⊥
