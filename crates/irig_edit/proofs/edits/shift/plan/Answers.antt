use Rattle.std.proofs.Common.{suc, ℕ, rules, ◌≡◌, ◌-◌, ℤ, List, Bool, length, map, ap, sym, ◌∙◌, subst, to_z, of_z, w64, arith, ◌≤◌}
use Rattle.std.proofs.lemmas.Int.{to_z-of_z}
use Rattle.irig_recording.specs.declared.pulse.Pulse.{Pulse}
use Rattle.irig_track.specs.Shifts.{CanShift}
use Rattle.irig_edit.specs.Changes.Single.{FitsSingle, turned_single}
use Rattle.irig_edit.specs.{Edits.Becoming.Becomes, Session.Calls.Edit.Shift, Edits.Edits.pulse_of, State.Marks.AllMayMove, State.Marks.stands}
use Rattle.irig_saved.specs.{declared.change.Change.TheVariants.One, declared.single.Single.TheVariants.Shift as Shifted}
use Rattle.irig_edit.proofs.EditLemmas.ShiftedStates.{marks_may, shifted_becomes}
use Rattle.irig_edit.proofs.edits.shift.plan.Goals as goal

-- what holds of pulses that are one more than the places before them
numbered : (P : ℕ → ℕ → Type 0) (i j : ℕ) → 1 ≤ i → i ≤ j → P (suc (i - 1)) (suc (j - 1)) → P i j
numbered P i j first order holds =
    let near : suc (i - 1) ≡ i = omega (arith, first) in
    let far : suc (j - 1) ≡ j = omega (arith, first, order) in
    subst (λ (n : ℕ). P n j) near (subst (λ (m : ℕ). P (suc (i - 1)) m) far holds)

pub returns : goal.returns
returns c =
    let i = c.args.i in
    let j = c.args.j in
    let d = c.args.by in
    let s = c.args.present.now.state in
    let there = c.in_ok-judge.ensures.there in
    let passed = to_z-of_z w64 d c.ranges.by in
    let can = subst (λ (e : ℤ). CanShift s.micros (i - 1) (j - 1) e s.pulses) passed c.in_ok-judge.ensures.can in
    let rise = ap (λ (p : Pulse). p.rise) c.pulse-low.ensures.pulse in
    let fall = ap (λ (p : Pulse). p.fall) c.pulse-high.ensures.pulse in
    let named = map (stands (pulse_of i s).rise (pulse_of j s).fall) s.marks in
    let letters : c.letters_from-marks.result ≡ named = c.letters_from-marks.ensures ∙ (λ k. map (stands (rise k) (fall k)) s.marks) in
    let may = marks_may i j d s c.pulse-low.ensures.state there.0 there.1 there.2 can in
    let long : length c.letters_from-marks.result ≡ 26 = search rules in
    let P : ℤ → Type 0 = λ e. CanShift s.micros (i - 1) (j - 1) e s.pulses × AllMayMove s.micros e c.letters_from-marks.result s.marks
    × (length c.letters_from-marks.result ≡ 26) in
    let fits = subst P (sym passed) (can, subst (λ (ls : List Bool). AllMayMove s.micros d ls s.marks) (sym letters) may, long) in
    let moved = shifted_becomes i j d s c.pulse-low.ensures.state there.0 there.1 there.2 can in
    let becomes = subst (λ (e : ℤ). Becomes (Shift i j d) s (turned_single s (Shifted (suc (i - 1)) (suc (j - 1)) e c.letters_from-marks.result)).0 j)
    (sym passed)
    (subst (λ (ls : List Bool). Becomes (Shift i j d) s (turned_single s (Shifted (suc (i - 1)) (suc (j - 1)) d ls)).0 j) (sym letters) moved) in
    record {
      refused = tt;
      allowed = search rules;
      there = there.2;
      fits = numbered (λ n m. FitsSingle s (Shifted n m (to_z w64 (of_z w64 d)) c.letters_from-marks.result)) i j there.0 there.1 fits;
      becomes = numbered (λ n m. Becomes (Shift i j d) s (turned_single s (Shifted n m (to_z w64 (of_z w64 d)) c.letters_from-marks.result)).0 j)
          i j there.0 there.1 becomes;
      change = (λ k. One (Shifted i j (passed k) (letters k)));
    }
