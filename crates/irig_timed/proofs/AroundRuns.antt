-- What the runs and gaps of a track say of the pulses around a moment.
use Rattle.std.proofs.Common.{◌≡◌, ◌&&◌, ◌==◌, ◌<◌, ◌≤◌, ◌+◌, ◌-◌, ℕ, suc, Bool, true, false, cond, List, length, slice_get, Option, Some, arith, refl, sym, ap, ◌∙◌, subst}
use Rattle.std.proofs.lemmas.Bool.{eq-eqb}
use Rattle.std.proofs.lemmas.Option.{same_Some}
use Rattle.irig_codes.specs.{Format.FormatView, Format.frame_period_of, Width.is_in_step}
use Rattle.irig_index.specs.Frames.{frames}
use Rattle.irig_recording.specs.declared.pulse.Pulse.{Pulse}
use Rattle.irig_times.specs.{Steps.micros_between}
use Rattle.irig_times.specs.declared.why.Why.TheVariants.{Step}
use Rattle.irig_times.proofs.SameTimes.{same-time}
use Rattle.irig_law.specs.{Fits.periods_apart, declared.frame.Frame.Frame}
use Rattle.irig_timed.specs.{Line.elements_after, Line.elements_by, Bends.bends_over, Gaps.gap_between, Gaps.gap_over}
use Rattle.irig_timed.specs.{Gaps.is_free, Gaps.is_step, Knowns.IsKnownIn, Moments.IsElement, Reasons.has_doubtful, Reasons.with_doubt}
use Rattle.irig_timed.specs.{Stretches.stretch_at, Knowns.IsAround}
use Rattle.irig_timed.specs.Runs.{IsIn, IsRun, RunsBy, nth_of, place_at, place_before}
use Rattle.irig_timed.specs.declared.{gap.Gap.Gap, run.Place.Place, run.Run.Run}
use Rattle.irig_timed.specs.declared.gap.Gap.TheVariants.{Line, Untimed}
use Rattle.irig_timed.proofs.{RunPlaces.around-between, RunPlaces.around-inside, Surround.around-by}

all-three : (a b c : Bool) → a ≡ true → b ≡ true → c ≡ true → (a && (b && c)) ≡ true
all-three a b c p q r = λ i. p i && (q i && r i)

no-doubt : (d : Bool) → with_doubt d (Line 0) ≡ Line 0
no-doubt true = refl
no-doubt false = refl

-- two pulses of a run, one after the other, are a step apart
module _ (f : FormatView) (century : ℕ) (ps : List Pulse) (believed : List Frame) (n m : ℕ) (r : Run) (run : IsRun f ps n r) (less : suc m < r.count) where
  one-element : elements_after f century (nth_of r m).point (nth_of r (suc m)).point ≡ 1
  one-element =
      let same = ap (λ b. elements_by (cond b (Some 0) (periods_apart century (frame_period_of f.kind) r.frame r.frame)) (r.element + m) (r.element + suc m))
      (same-time r.frame r.frame refl) in
      same ∙ omega arith

  in-step : is_in_step f (micros_between ps (r.number + m) (r.number + suc m)) ≡ true
  in-step =
      let next : r.number + suc m ≡ r.number + m + 1 = omega arith in
      ap (λ k. is_in_step f (micros_between ps (r.number + m) k)) next ∙ run.steps (r.number + m) (omega arith) (omega (arith, less))

  pub step-line : gap_between f century ps believed (nth_of r m) (nth_of r (suc m)) ≡ Line 0
  step-line =
      let n = elements_after f century (nth_of r m).point (nth_of r (suc m)).point in
      let one = r.number + m in
      let other = r.number + suc m in
      let step : is_step f ps one other n ≡ true = all-three (other == one + 1) (n == 1) (is_in_step f (micros_between ps one other))
      (eq-eqb other (one + 1) (omega arith)) (eq-eqb n 1 one-element) in-step in
      let other-gap = gap_over f ps (is_free f ps one other) (stretch_at believed one) (bends_over f ps believed one other) (micros_between ps one other) n in
      ap (λ b. cond b (Line 0) (cond (n == 0) (Untimed Step) other-gap)) step

module _ (f : FormatView) (century : ℕ) (ps : List Pulse) (believed : List Frame) (held : List Bool) (runs : List Run) (gaps : List Gap)
    (known : IsKnownIn f century ps believed held runs gaps) (risen : ℕ) where
  inside-by : (p m : ℕ) (r : Run) → slice_get runs p ≡ Some r → risen ≡ r.number + suc m → suc m < r.count
      → IsAround f century ps believed held risen (record { from = Some (nth_of r m); to = Some (nth_of r (suc m)); gap = Line 0 })
  inside-by p m r at is less = record {
    around = around-by (IsIn runs) (IsElement f century ps believed) known.points risen (Some (nth_of r m)) (Some (nth_of r (suc m)))
        (around-inside f ps (length ps) runs known.are_runs risen p m r at is less);
    gap =
        let d = has_doubtful f (Some (nth_of r m)) (Some (nth_of r (suc m))) (frames f ps) held in
        sym (ap (with_doubt d) (step-line f century ps believed (length ps) m r (known.are_runs.each p r at) less) ∙ no-doubt d);
  }

  pub inside-is : (p over : ℕ) (r : Run) → slice_get runs p ≡ Some r → r.number < risen → over ≡ risen - r.number → over < r.count
      → (x y : Place) → x ≡ nth_of r (over - 1) → y ≡ nth_of r over
      → IsAround f century ps believed held risen (record { from = Some x; to = Some y; gap = Line 0 })
  inside-is p over r at low is less x y ex ey =
      let next : suc (over - 1) ≡ over = omega (arith, low, is) in
      let there = inside-by p (over - 1) r at (omega (arith, low, is, next)) (omega (arith, next, less)) in
      let ey-too : y ≡ nth_of r (suc (over - 1)) = ey ∙ ap (nth_of r) (sym next) in
      subst (λ (z : Place). IsAround f century ps believed held risen (record { from = Some x; to = Some z; gap = Line 0 })) (sym ey-too)
      (subst (λ (z : Place). IsAround f century ps believed held risen (record { from = Some z; to = Some (nth_of r (suc (over - 1))); gap = Line 0 }))
      (sym ex) there)

  pub between-is : (place : ℕ) → place ≤ length runs → RunsBy runs risen place
      → ((p : ℕ) (r : Run) → slice_get runs p ≡ Some r → suc p ≡ place → r.number + r.count ≤ risen)
      → (x y : Option Place) (gap : Gap) → x ≡ place_before runs place → y ≡ place_at runs place → slice_get gaps place ≡ Some gap
      → IsAround f century ps believed held risen (record { from = x; to = y; gap = gap })
  between-is place within parted ended x y gap ex ey at =
      let a = place_before runs place in
      let b = place_at runs place in
      let there : IsAround f century ps believed held risen (record { from = a; to = b; gap = gap }) = record {
        around = around-by (IsIn runs) (IsElement f century ps believed) known.points risen a b
            (around-between f ps (length ps) runs known.are_runs risen place within parted ended);
        gap = same_Some gap _ (sym at ∙ known.are_gaps place within);
      } in
      subst (λ (z : Option Place). IsAround f century ps believed held risen (record { from = x; to = z; gap = gap })) (sym ey)
      (subst (λ (z : Option Place). IsAround f century ps believed held risen (record { from = z; to = b; gap = gap })) (sym ex) there)
