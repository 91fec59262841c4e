-- The last pulses with a name by the two frames of a stretch.
use Rattle.std.proofs.Common.{◌≡◌, ◌<◌, ◌≤◌, ◌+◌, ◌-◌, ℕ, Bool, List, length, slice_get, Some, arith, ap, ◌∙◌, subst}
use Rattle.irig_codes.specs.Format.{FormatView}
use Rattle.irig_recording.specs.declared.pulse.Pulse.{Pulse}
use Rattle.irig_law.specs.{Clocks.clock_of, Clocks.slack_of, Fits.last_after, Fits.last_before, Names.seen, Names.walk}
use Rattle.irig_law.specs.{Rows.rise_in, Rows.row_after, Rows.row_before, Rows.runs_in, Seens.SeenAfter, Seens.SeenBefore}
use Rattle.irig_law.specs.declared.{clock.Clock.Clock, frame.Frame.Frame, names.Seen.Seen, names.Walk.Walk}

-- a walk is at the last name of a list
abbrev pub IsLast : List Seen → ℕ → Walk → Type 0
IsLast list many w = (c : Clock) (rise : ℕ → ℕ) (runs : ℕ → Bool) → ((k : ℕ) → k < many → slice_get list k ≡ Some (seen c rise runs k))
    → w ≡ walk c rise runs (many - 1)

module _ (f : FormatView) (ps : List Pulse) (a b : Frame) (after before : List Seen) (order : a.marker < b.marker)
    (first : SeenAfter f ps a (slack_of ps a b) after) (second : SeenBefore f ps b (slack_of ps a b) before)
    (long : b.marker - a.marker + 1 ≤ length after) (long-too : length before ≡ b.marker - a.marker + 1) (w : Walk) where
  gap : length before - 1 ≡ b.marker - a.marker
  gap = omega (arith, long-too)

  pub is-last-after : IsLast after (length before) w → w ≡ last_after f ps a b
  is-last-after is =
      let c = clock_of f ps a (slack_of ps a b) in
      let rise = rise_in ps (row_after a) in
      let runs = runs_in f ps (row_after a) in
      is c rise runs (λ i less. (let place : a.marker + i - a.marker ≡ i = omega arith in
      subst (λ (j : ℕ). slice_get after j ≡ Some (seen c rise runs j)) place
      (first.each (a.marker + i) (omega (arith, place, less, long, long-too)))))
      ∙ ap (λ (m : ℕ). walk c rise runs m) gap

  pub is-last-before : IsLast before (length before) w → w ≡ last_before f ps a b
  is-last-before is =
      let c = clock_of f ps b (slack_of ps a b) in
      let rise = rise_in ps (row_before b) in
      let runs = runs_in f ps (row_before b) in
      is c rise runs (λ i less. (let place : b.marker - (b.marker - i) ≡ i = omega (arith, less, long-too, order) in
      subst (λ (j : ℕ). slice_get before j ≡ Some (seen c rise runs j)) place
      (second.each (b.marker - i) (omega (arith, place, less)))))
      ∙ ap (λ (m : ℕ). walk c rise runs m) gap
