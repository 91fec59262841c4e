-- What is seen of the pulses of an end, by the walk up to each, and whether the end is sure.
use Rattle.std.proofs.Common.{◌≡◌, ◌≤◌, ◌+◌, ◌-◌, ℕ, suc, zero, Bool, true, false, List, length, arith, ap, ◌∙◌, subst}
use Rattle.std.specs.Prelude.{◌↔◌, if◌then◌else◌}
use Rattle.irig_codes.specs.Format.{FormatView}
use Rattle.irig_recording.specs.declared.pulse.Pulse.{Pulse}
use Rattle.irig_law.specs.{Ends.IsSure, Ends.IsSureAfter, Rows.row_after}
use Rattle.irig_law.specs.Names.{seen_at, seen_loosely, walk}
use Rattle.irig_law.specs.declared.{clock.Clock.Clock, frame.Frame.Frame, names.Seen.Seen, names.Walk.Walk}
use Rattle.irig_law.specs.declared.names.Seen.TheVariants.{Named, Unknown}

pub loosely-next : (c : Clock) (rise : ℕ → ℕ) (runs half : ℕ → Bool) (k : ℕ) (w : Walk) → 1 ≤ k → w ≡ walk c rise runs (k - 1)
    → seen_at c rise half k w ≡ seen_loosely c rise runs half k
loosely-next c rise runs half zero w some is = absurd (omega (arith, some))
loosely-next c rise runs half (suc m) w some is =
    let same : suc m - 1 ≡ m = omega arith in
    ap (λ w. seen_at c rise half (suc m) w) (is ∙ ap (λ i. walk c rise runs i) same)

-- a name that passed a test is a name
pub only-named : (b : Bool) (s : Seen) (e : ℕ) → (if b then s else Unknown) ≡ Named e → s ≡ Named e
only-named true s e is = is
only-named false s e is = absurd (cc)

-- the last pulse of a list of pulses is not asked
pub sure-after : (f : FormatView) (qs ps : List Pulse) (a : Frame) (none : Bool) (m : ℕ) → (none ≡ true) ↔ IsSure f qs a (row_after a) m
    → qs ≡ ps → m ≡ length ps - (a.marker + 1) → (none ≡ true) ↔ IsSureAfter f ps a
sure-after f qs ps a none m sure same many =
    subst (λ (n : ℕ). (none ≡ true) ↔ IsSure f ps a (row_after a) n) many
    (subst (λ (q : List Pulse). (none ≡ true) ↔ IsSure f q a (row_after a) m) same sure)
