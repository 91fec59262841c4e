-- Pulses that are moved in time, and the marks with them.
use Rattle.std.proofs.Common.{◌≡◌, ◌≤◌, ◌<◌, ◌+◌, ◌-◌, ℕ, ℤ, suc, zero, Bool, true, false, ◌&&◌, inl, inr, nat_lt, nat_le, List, [], ◌∷◌, length, take, drop}
use Rattle.std.proofs.Common.{slice_get, Some, refl, ap, sym, ◌∙◌, subst, arith}
use Rattle.std.proofs.lemmas.{Bool.cases_lt, Bool.or_parts, Bool.Decides.nat_tests, List.drop_all, Option.slice_get-get_or}
use Rattle.irig_recording.specs.{Recording.RisesFrom, declared.pulse.Pulse.Pulse}
use Rattle.irig_track.specs.{Edges.edges_of, Edges.pulse, Free.following, Free.first_or, Shifts.CanShift, Shifts.ahead, Shifts.back}
use Rattle.irig_track.proofs.{Allowed.shift_stands, Allowed.stands_shift, Places.first_or-drop, PulsesBetween.following-last}
use Rattle.irig_edit.specs.Edits.Conditions.{leaves, meets, meets_next}
use Rattle.irig_edit.specs.{State.State.State, State.State.IsState, Edits.Edits.pulse_of, State.Marks.moved_time}
use Rattle.irig_edit.proofs.StateLemmas.TouchedStretches.{pulse_after}

-- if a pulse is there, it is the pulse of that number
pub pulse_there : (i : ℕ) (s : State) → 1 ≤ i → i ≤ length s.pulses → slice_get s.pulses (i - 1) ≡ Some (pulse_of i s)
pulse_there i s first last = slice_get-get_or s.pulses (i - 1) (pulse 0 0) (omega arith)

-- the least time that is free before pulse i
free_before : (i : ℕ) (s : State) → 1 < i → i ≤ length s.pulses
    → following 0 (edges_of (take (i - 1) s.pulses)) ≡ (pulse_of (i - 1) s).fall + 1
free_before i s more last =
    let up : i - 1 ≡ suc (i - 1 - 1) = omega arith in
    ap (λ n. following 0 (edges_of (take n s.pulses))) up
    ∙ following-last 0 (i - 1 - 1) (pulse_of (i - 1) s) s.pulses (pulse_there (i - 1) s (omega arith) (omega arith))

nothing_before : (i : ℕ) (s : State) → i ≤ 1 → following 0 (edges_of (take (i - 1) s.pulses)) ≡ 0
nothing_before i s few = let none : i - 1 ≡ 0 = omega arith in ap (λ n. following 0 (edges_of (take n s.pulses))) none

-- the first edge after pulse j
edge_behind : (j : ℕ) (s : State) → j < length s.pulses
    → first_or (s.micros + 1) (edges_of (drop j s.pulses)) ≡ (pulse_of (j + 1) s).rise
edge_behind j s more =
    let down : j + 1 - 1 ≡ j = omega arith in
    first_or-drop (s.micros + 1) j (pulse_of (j + 1) s) s.pulses
    (sym (ap (slice_get s.pulses) down) ∙ pulse_there (j + 1) s (omega arith) (omega arith))

nothing_behind : (j : ℕ) (s : State) → length s.pulses ≤ j
    → first_or (s.micros + 1) (edges_of (drop j s.pulses)) ≡ s.micros + 1
nothing_behind j s all = ap (λ (ps : List Pulse). first_or (s.micros + 1) (edges_of ps)) (drop_all j s.pulses all)

-- what does not leave the track
stays : (i j : ℕ) (d : ℤ) (s : State) → leaves i j d s ≡ false
    → (back d ≤ (pulse_of i s).rise + ahead d) × (moved_time d (pulse_of j s).fall ≤ s.micros)
stays i j d s h =
    let both = or_parts (nat_lt ((pulse_of i s).rise + ahead d) (back d)) (nat_lt s.micros (moved_time d (pulse_of j s).fall)) h in
    let one = both.0 in
    let two = both.1 in
    (grind (arith, nat_tests), grind (arith, nat_tests))

-- before the moved pulses time is free, or it is not
early_fits : (i prev rise start on off : ℕ) → off ≤ rise + on → (1 < i → start ≡ prev + 1) → (i ≤ 1 → start ≡ 0)
    → (nat_lt 1 i && nat_le (rise + on - off) prev) ≡ false → start + off ≤ rise + on
early_fits i prev rise start on off zero_stays more none free = elim (cases_lt 1 i) [
  | inl lt ↦ (
      let there : nat_lt 1 i ≡ true = grind (arith, nat_tests) in
      let behind : nat_le (rise + on - off) prev ≡ false = (rw there at free) in
      let apart : prev < rise + on - off = grind (arith, nat_tests) in
      omega (arith, more lt))
  | inr le ↦ omega (arith, none le)
]

early_free : (i prev rise start on off : ℕ) → off ≤ rise + on → (1 < i → start ≡ prev + 1)
    → start + off ≤ rise + on → (nat_lt 1 i && nat_le (rise + on - off) prev) ≡ false
early_free i prev rise start on off zero_stays more fits = elim (cases_lt 1 i) [
  | inl lt ↦ (
      let there : nat_lt 1 i ≡ true = grind (arith, nat_tests) in
      let apart : prev < rise + on - off = omega (arith, more lt) in
      let behind : nat_le (rise + on - off) prev ≡ false = grind (arith, nat_tests) in
      rw there behind)
  | inr le ↦ (let none : nat_lt 1 i ≡ false = grind (arith, nat_tests) in rw none refl)
]

-- so after them
late_fits : (j count next fall micros high on off : ℕ) → off ≤ fall + on → fall + on - off ≤ micros → (j < count → high ≡ next)
    → (count ≤ j → high ≡ micros + 1) → (nat_lt j count && nat_le next (fall + on - off)) ≡ false → fall + on < high + off
late_fits j count next fall micros high on off zero_stays within more none free = elim (cases_lt j count) [
  | inl lt ↦ (
      let there : nat_lt j count ≡ true = grind (arith, nat_tests) in
      let before : nat_le next (fall + on - off) ≡ false = (rw there at free) in
      let apart : fall + on - off < next = grind (arith, nat_tests) in
      omega (arith, more lt))
  | inr le ↦ omega (arith, none le)
]

late_free : (j count next fall high on off : ℕ) → off ≤ fall + on → (j < count → high ≡ next)
    → fall + on < high + off → (nat_lt j count && nat_le next (fall + on - off)) ≡ false
late_free j count next fall high on off zero_stays more fits = elim (cases_lt j count) [
  | inl lt ↦ (
      let there : nat_lt j count ≡ true = grind (arith, nat_tests) in
      let apart : fall + on - off < next = omega (arith, more lt) in
      let before : nat_le next (fall + on - off) ≡ false = grind (arith, nat_tests) in
      rw there before)
  | inr le ↦ (let none : nat_lt j count ≡ false = grind (arith, nat_tests) in rw none refl)
]

-- a pulse does not rise after the fall of a later one
pub rise_before : (i j : ℕ) (s : State) → IsState s → 1 ≤ i → i ≤ j → j ≤ length s.pulses → (pulse_of i s).rise ≤ (pulse_of j s).fall
rise_before i j s lawful first order last =
    along (i - 1) (j - 1) 0 (pulse_of i s) (pulse_of j s) s.pulses lawful.track.rises (omega arith) (pulse_there i s first (omega arith))
    (pulse_there j s (omega arith) last) where
      along : (i j low : ℕ) (p q : Pulse) (ps : List Pulse) → RisesFrom low (edges_of ps) → i ≤ j → slice_get ps i ≡ Some p → slice_get ps j ≡ Some q
          → p.rise ≤ q.fall
      along i j low p q [] rises order is_first is_last = absurd (cc)
      along zero zero low p q (r ∷ rs) rises order is_first is_last =
          let one : r ≡ p = cc in
          let two : r ≡ q = cc in
          let P : Pulse → Type 0 = λ x. x.rise ≤ q.fall in
          let Q : Pulse → Type 0 = λ x. r.rise ≤ x.fall in
          subst P one (subst Q two (omega (arith, rises.1.0)))
      along zero (suc j) low p q (r ∷ rs) rises order is_first is_last =
          let one : r ≡ p = cc in
          let behind = pulse_after (r.fall + 1) j q rs rises.1.1 is_last in
          let P : Pulse → Type 0 = λ x. x.rise ≤ q.fall in
          subst P one (omega (arith, rises.1.0, behind.0, behind.1))
      along (suc i) zero low p q (r ∷ rs) rises order is_first is_last = absurd (omega (arith, order))
      along (suc i) (suc j) low p q (r ∷ rs) rises order is_first is_last =
          along i j (r.fall + 1) p q rs rises.1.1 (omega (arith, order)) is_first is_last

-- what can be shifted meets nobody
pub meets_not : (i j : ℕ) (d : ℤ) (s : State) → IsState s → 1 ≤ i → i ≤ j → j ≤ length s.pulses → leaves i j d s ≡ false
    → CanShift s.micros (i - 1) (j - 1) d s.pulses → meets i j d s ≡ false
meets_not i j d s lawful first order last inside can =
    let same : j - 1 + 1 ≡ j = omega arith in
    let low = stays i j d s inside in
    let between = rise_before i j s lawful first order last in
    let end : first_or (s.micros + 1) (edges_of (drop (j - 1 + 1) s.pulses)) ≡ first_or (s.micros + 1) (edges_of (drop j s.pulses)) =
    ap (λ n. first_or (s.micros + 1) (edges_of (drop n s.pulses))) same in
    let fits = shift_stands (i - 1) (j - 1) (pulse_of i s) (pulse_of j s) s.pulses (omega arith) (pulse_there i s first (omega arith))
    (pulse_there j s (omega arith) last)
    s.micros (following 0 (edges_of (take (i - 1) s.pulses))) (first_or (s.micros + 1) (edges_of (drop j s.pulses))) d (omega arith) lawful.track refl (sym end)
    can in
    let before = early_free i (pulse_of (i - 1) s).fall (pulse_of i s).rise (following 0 (edges_of (take (i - 1) s.pulses))) (ahead d) (back d) low.0
    (λ more. free_before i s more (omega arith)) fits.0 in
    let behind = late_free j (length s.pulses) (pulse_of (j + 1) s).rise (pulse_of j s).fall (first_or (s.micros + 1) (edges_of (drop j s.pulses))) (ahead d)
    (back d)
    (omega (arith, low.0, between)) (edge_behind j s) fits.1 in
    rw before behind

-- and what meets nobody can
pub can_shift : (i j : ℕ) (d : ℤ) (s : State) → IsState s → 1 ≤ i → i ≤ j → j ≤ length s.pulses → leaves i j d s ≡ false
    → meets i j d s ≡ false → CanShift s.micros (i - 1) (j - 1) d s.pulses
can_shift i j d s lawful first order last inside free =
    let same : j - 1 + 1 ≡ j = omega arith in
    let low = stays i j d s inside in
    let between = rise_before i j s lawful first order last in
    let sides = or_parts (nat_lt 1 i && nat_le (moved_time d (pulse_of i s).rise) (pulse_of (i - 1) s).fall) (meets_next j (moved_time d (pulse_of j s).fall) s)
    free in
    let end : first_or (s.micros + 1) (edges_of (drop (j - 1 + 1) s.pulses)) ≡ first_or (s.micros + 1) (edges_of (drop j s.pulses)) =
    ap (λ n. first_or (s.micros + 1) (edges_of (drop n s.pulses))) same in
    let before = early_fits i (pulse_of (i - 1) s).fall (pulse_of i s).rise (following 0 (edges_of (take (i - 1) s.pulses))) (ahead d) (back d) low.0
    (λ more. free_before i s more (omega arith)) (nothing_before i s) sides.0 in
    let behind = late_fits j (length s.pulses) (pulse_of (j + 1) s).rise (pulse_of j s).fall s.micros (first_or (s.micros + 1) (edges_of (drop j s.pulses)))
    (ahead d) (back d)
    (omega (arith, low.0, between)) low.1 (edge_behind j s) (nothing_behind j s) sides.1 in
    stands_shift (i - 1) (j - 1) (pulse_of i s) (pulse_of j s) s.pulses (omega arith) (pulse_there i s first (omega arith)) (pulse_there j s (omega arith) last)
    s.micros (following 0 (edges_of (take (i - 1) s.pulses))) (first_or (s.micros + 1) (edges_of (drop j s.pulses))) d (omega arith) lawful.track refl (sym end)
    before behind

-- what cannot be shifted meets somebody
pub meets_some : (i j : ℕ) (d : ℤ) (s : State) → IsState s → 1 ≤ i → i ≤ j → j ≤ length s.pulses → leaves i j d s ≡ false
    → (CanShift s.micros (i - 1) (j - 1) d s.pulses → ⊥) → meets i j d s ≡ true
meets_some i j d s lawful first order last inside cannot = by_case (meets i j d s) refl where
  by_case : (v : Bool) → meets i j d s ≡ v → v ≡ true
  by_case true is = refl
  by_case false is = absurd (cannot (can_shift i j d s lawful first order last inside is))
