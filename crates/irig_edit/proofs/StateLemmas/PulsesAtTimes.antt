-- Whether a pulse meets a time, and what lies before the time and after it.
use Rattle.std.proofs.Common.{◌≡◌, ◌≤◌, ◌<◌, ◌+◌, ◌-◌, ℕ, suc, zero, Bool, true, false, ◌&&◌, ◌⊎◌, inl, inr, nat_lt, nat_le, List, [], ◌∷◌, length, take, drop}
use Rattle.std.proofs.Common.{slice_get, Some, refl, ap, sym, ◌∙◌, subst, arith}
use Rattle.std.proofs.Math.Bool.{or-false}
use Rattle.std.proofs.lemmas.{Bool.and_right, Bool.cases_lt, Bool.or_parts, Bool.Decides.nat_tests}
use Rattle.std.specs.List.{list_any}
use Rattle.irig_recording.specs.{Recording.RisesFrom, declared.pulse.Pulse.Pulse}
use Rattle.irig_track.specs.Edges.{edges_of, Under}
use Rattle.irig_edit.specs.{Edits.Conditions.is_met, Edits.Regenerated.rising_before, State.State.State, State.State.IsState}
use Rattle.irig_edit.proofs.StateLemmas.Risings.{before_yes, before_no, none_before}

-- a pulse rises before a time, and does not fall before it
abbrev pub meets_time : ℕ → Pulse → Bool
meets_time t p = nat_lt p.rise t && nat_le t p.fall

met_no : (t : ℕ) (p : Pulse) → t ≤ p.rise → meets_time t p ≡ false
met_no t p h = let no : nat_lt p.rise t ≡ false = grind (arith, nat_tests) in rw no refl

met_ended : (t : ℕ) (p : Pulse) → p.fall < t → meets_time t p ≡ false
met_ended t p h = let no : nat_le t p.fall ≡ false = grind (arith, nat_tests) in and_right (nat_lt p.rise t) (nat_le t p.fall) no

-- if none of the pulses rises before a time, none meets it
pub met_none : (t : ℕ) (ps : List Pulse) → length (rising_before t ps) ≤ 0 → list_any (meets_time t) ps ≡ false
met_none t [] none = refl
met_none t (p ∷ ps) none = by_case (cases_lt p.rise t) (met_none t ps) where
  Few : List Pulse → Type 0
  Few qs = length qs ≤ 0

  by_case : (p.rise < t) ⊎ (t ≤ p.rise) → (length (rising_before t ps) ≤ 0 → list_any (meets_time t) ps ≡ false)
      → list_any (meets_time t) (p ∷ ps) ≡ false
  by_case (inl early) rest = absurd (let some = subst Few (before_yes t p ps early) none in omega (arith, some))
  by_case (inr late) rest = rw (met_no t p late) (rest (subst Few (before_no t p ps late) none))

-- else the last of them shows it
pub met_last : (t low n : ℕ) (q : Pulse) (ps : List Pulse) → RisesFrom low (edges_of ps) → length (rising_before t ps) ≡ suc n
    → slice_get ps n ≡ Some q → list_any (meets_time t) ps ≡ nat_le t q.fall
met_last t low n q [] h count is = absurd (omega (arith, count))
met_last t low zero q (p ∷ ps) h count is = by_case (cases_lt p.rise t) where
  by_case : (p.rise < t) ⊎ (t ≤ p.rise) → list_any (meets_time t) (p ∷ ps) ≡ nat_le t q.fall
  by_case (inl early) =
      let yes : nat_lt p.rise t ≡ true = grind (arith, nat_tests) in
      let same : p ≡ q = cc in
      let P : List Pulse → Type 0 = λ qs. length qs ≡ suc zero in
      let one = subst P (before_yes t p ps early) count in
      let others : list_any (meets_time t) ps ≡ false = met_none t ps (omega (arith, one)) in
      rw others (rw yes (or-false (nat_le t p.fall) ∙ ap (λ (r : Pulse). nat_le t r.fall) same))
  by_case (inr late) =
      let P : List Pulse → Type 0 = λ qs. length qs ≡ suc zero in
      let none = none_before t p.rise (p ∷ ps) late (omega arith, h.1) in
      absurd (let zero_long = subst P none count in omega (arith, zero_long))
met_last t low (suc n) q (p ∷ ps) h count is = by_case (cases_lt p.rise t) (cases_lt p.fall t) (λ more. met_last t (p.fall + 1) n q ps h.1.1 more is)
  where
    P : List Pulse → Type 0
    P qs = length qs ≡ suc (suc n)

    by_case : (p.rise < t) ⊎ (t ≤ p.rise) → (p.fall < t) ⊎ (t ≤ p.fall)
        → (length (rising_before t ps) ≡ suc n → list_any (meets_time t) ps ≡ nat_le t q.fall)
        → list_any (meets_time t) (p ∷ ps) ≡ nat_le t q.fall
    by_case (inl early) (inl ended) rest =
        let more = subst P (before_yes t p ps early) count in
        rw (met_ended t p ended) (rest (omega (arith, more)))
    by_case (inl early) (inr reaches) rest =
        let more = subst P (before_yes t p ps early) count in
        let none = none_before t (p.fall + 1) ps (omega (arith, reaches)) h.1.1 in
        let Q : List Pulse → Type 0 = λ qs. length qs + 1 ≡ suc (suc n) in
        absurd (let zero_long = subst Q none (omega (arith, more)) in omega (arith, zero_long))
    by_case (inr late) _ rest =
        let none = none_before t p.rise (p ∷ ps) late (omega arith, h.1) in
        absurd (let zero_long = subst P none count in omega (arith, zero_long))

-- if no pulse meets a time, those that rise before it fall before it
pub before_under : (t low : ℕ) (ps : List Pulse) → RisesFrom low (edges_of ps) → list_any (meets_time t) ps ≡ false
    → Under t (edges_of (take (length (rising_before t ps)) ps))
before_under t low [] h free = tt
before_under t low (p ∷ ps) h free =
    by_case (cases_lt p.rise t) (cases_lt p.fall t)
    (before_under t (p.fall + 1) ps h.1.1 (or_parts (meets_time t p) (list_any (meets_time t) ps) free).1) where
      Falls : List Pulse → Type 0
      Falls qs = Under t (edges_of (take (length (rising_before t qs)) qs))

      by_case : (p.rise < t) ⊎ (t ≤ p.rise) → (p.fall < t) ⊎ (t ≤ p.fall) → Falls ps → Falls (p ∷ ps)
      by_case (inl early) (inl ended) rest = rw (before_yes t p ps early) (early, (ended, rest))
      by_case (inl early) (inr reaches) rest =
          let yes : nat_lt p.rise t ≡ true = grind (arith, nat_tests) in
          let too : nat_le t p.fall ≡ true = grind (arith, nat_tests) in
          let met : meets_time t p ≡ true = rw yes (rw too refl) in
          let free_here = (or_parts (meets_time t p) (list_any (meets_time t) ps) free).0 in
          let bad : true ≡ false = sym met ∙ free_here in
          cc
      by_case (inr late) _ rest = rw (none_before t p.rise (p ∷ ps) late (omega arith, h.1)) tt

-- the others rise from it on
pub behind_rises : (t low : ℕ) (ps : List Pulse) → RisesFrom low (edges_of ps) → RisesFrom t (edges_of (drop (length (rising_before t ps)) ps))
behind_rises t low [] h = tt
behind_rises t low (p ∷ ps) h = by_case (cases_lt p.rise t) (behind_rises t (p.fall + 1) ps h.1.1) where
  Rises : List Pulse → Type 0
  Rises qs = RisesFrom t (edges_of (drop (length (rising_before t qs)) qs))

  by_case : (p.rise < t) ⊎ (t ≤ p.rise) → Rises ps → Rises (p ∷ ps)
  by_case (inl early) rest = rw (before_yes t p ps early) rest
  by_case (inr late) rest = rw (none_before t p.rise (p ∷ ps) late (omega arith, h.1)) (late, h.1)

-- whether the last pulse before a time meets it
pub is_met-last : (t risen : ℕ) (s : State) (q : Pulse) → IsState s → risen ≡ length (rising_before t s.pulses) → 0 < risen
    → slice_get s.pulses (risen - 1) ≡ Some q → is_met t s ≡ nat_le t q.fall
is_met-last t zero s q lawful count some is = absurd (omega (arith, some))
is_met-last t (suc n) s q lawful count some is =
    let less : suc n - 1 ≡ n = omega arith in
    met_last t 0 n q s.pulses lawful.track.rises (sym count) (sym (ap (slice_get s.pulses) less) ∙ is)

pub is_met-none : (t risen : ℕ) (s : State) → risen ≡ length (rising_before t s.pulses) → risen ≤ 0 → is_met t s ≡ nat_lt 0 risen
is_met-none t risen s count none =
    let low : nat_lt 0 risen ≡ false = grind (arith, nat_tests) in
    met_none t s.pulses (omega (arith, count, none)) ∙ sym low
