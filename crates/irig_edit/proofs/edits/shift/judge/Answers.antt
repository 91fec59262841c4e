use Rattle.std.proofs.Common.{◌≡◌, ◌≤◌, ◌-◌, ℕ, ℤ, ap, arith, sym, subst, ◌∙◌, refl, true, false, length, w64}
use Rattle.std.proofs.lemmas.{Bool.Decides.nat_tests, Int.to_z-of_z}
use Rattle.irig_track.specs.Shifts.{CanShift}
use Rattle.irig_edit.specs.{Edits.Conditions.are_pulses, Edits.Conditions.leaves, State.State.State}
use Rattle.irig_edit.proofs.{EditLemmas.Shifts.meets_not, EditLemmas.Shifts.meets_some, edits.shift.judge.Goals.After-can_shift}
use Rattle.irig_edit.proofs.edits.shift.judge.Goals as goal

-- what is known of the pulses of a shift that does not leave the track
record Stays (i j : ℕ) (d : ℤ) (s : State) : Type 0 where
  first : 1 ≤ i
  order : i ≤ j
  last : j ≤ length s.pulses
  there : are_pulses i j s ≡ true
  inside : leaves i j d s ≡ false

stays : (c : After-can_shift) → Stays c.args.i c.args.j c.args.by c.args.present.now.state
stays c =
    let s = c.args.present.now.state in
    let first : 1 ≤ c.args.i = omega arith in
    let order : c.args.i ≤ c.args.j = omega arith in
    let last : c.args.j ≤ length s.pulses = omega (arith, c.if-j-len.false, c.len.ensures.len, ap length c.track.ensures.pulses) in
    record {
      first = first;
      order = order;
      last = last;
      there = grind (arith, nat_tests);
      inside = sym (ap (λ d. leaves c.args.i c.args.j d s) (to_z-of_z w64 c.args.by c.ranges.by)) ∙ sym c.leaves.ensures ∙ c.if-leaves.false;
    }

pub returns-then-can_shift-clause-allowed : goal.returns-then-can_shift-clause-allowed
returns-then-can_shift-clause-allowed c =
    let s = c.args.present.now.state in
    let k = stays (goal.at.returns-then-can_shift-clause-allowed c).After-can_shift in
    let P : ℤ → Type 0 = λ d. CanShift s.micros (c.args.i - 1) (c.args.j - 1) d s.pulses in
    let free = meets_not c.args.i c.args.j c.args.by s c.track.ensures.state k.first k.order k.last k.inside
    (subst P (to_z-of_z w64 c.args.by c.ranges.by) (c.if-can_shift.ensures.can.0 refl)) in
    rw k.there (rw k.inside (rw free refl))

pub returns-else-can_shift-clause-refused : goal.returns-else-can_shift-clause-refused
returns-else-can_shift-clause-refused c =
    let s = c.args.present.now.state in
    let k = stays (goal.at.returns-else-can_shift-clause-refused c).After-can_shift in
    let P : ℤ → Type 0 = λ d. CanShift s.micros (c.args.i - 1) (c.args.j - 1) d s.pulses in
    let some = meets_some c.args.i c.args.j c.args.by s c.track.ensures.state k.first k.order k.last k.inside (λ can.
    let bad : false ≡ true = c.if-can_shift.ensures.can.1 (subst P (sym (to_z-of_z w64 c.args.by c.ranges.by)) can) in cc) in
    rw k.there (rw k.inside (rw some refl))
